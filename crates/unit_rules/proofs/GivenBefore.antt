-- Parameters of a task behind those that are given.
use Rattle.std.proofs.Common.{◌≡◌, ◌∙◌, ℕ, ◌+◌, ◌<◌, Bool, true, false, ◌||◌, cond, List, []}
use Rattle.std.proofs.Common.{◌∷◌, ◌++◌, length, take, get_or, Option, Some, None}
use Rattle.std.proofs.Common.{ap, sym, refl, subst, arith, nat_eq, nat_lt}
use Rattle.std.specs.List.{list_any}
use Rattle.std.specs.Str.{bytes_eq}
use Rattle.std.specs.Prelude.{codes}
use Rattle.std.proofs.lemmas.List.Folds.{list_any-append}
use Rattle.std.proofs.lemmas.Bool.Decides.{nat_tests}
use Rattle.std.proofs.lemmas.Slice.Eq.{bytes_eq-Decides}
use Rattle.iec_tables.specs.Words.{raised_all}
use Rattle.st_tree.specs.declared.node.Node.{Node}
use Rattle.st_tree.specs.declared.file.Parameter.{Parameter}
use Rattle.link_faults.specs.First.{after, sooner, is_before}
use Rattle.link_faults.specs.declared.code.LinkCode.TheVariants as code
use Rattle.link_faults.specs.declared.fault.LinkFault.{LinkFault}
use Rattle.link_faults.specs.declared.fault.Faults.{Faults}
use Rattle.expression_types.specs.Meanings.{Meanings}
use Rattle.expression_types.specs.declared.judged.Place.TheVariants as place
use Rattle.unit_rules.specs.Noted.{fault_at, fault_where}
use Rattle.unit_rules.specs.Parameters.{same_names, parameter_kind, is_given, twice_faults}
use Rattle.unit_rules.specs.Parameters.{kind_faults, parameter_faults, unknown_faults}
use Rattle.unit_rules.specs.Parameters.{value_faults}
use Rattle.unit_rules.specs.steps.Given.{given_in, and_given, noted_of}
use Rattle.unit_rules.specs.declared.parameters.Given.{Given}
use Rattle.unit_rules.specs.declared.parameters.ParameterKind.{ParameterKind}
use Rattle.unit_rules.specs.declared.parameters.ParameterKind.TheVariants as kind
use Rattle.unit_rules.proofs.Noting.{one_more}

-- ---- a fault at a node where a lesser one stands, too

abbrev lex : (a b c x y z : ℕ) → Bool
lex a b c x y z =
    cond (nat_eq a x) (cond (nat_eq b y) (nat_lt c z) (nat_lt b y)) (nat_lt a x)

lex_same : (a b : ℕ) → lex a b 20 a b 21 ≡ true
lex_same a b = grind (arith, nat_tests)

lex_less : (a b x y z : ℕ) → lex a b 21 x y z ≡ true → lex a b 20 x y z ≡ true
lex_less a b x y z h = grind (arith, nat_tests)

sooner_of : (t u x : LinkFault) → is_before u t ≡ true
    → (is_before t x ≡ true → is_before u x ≡ true) → (b : Bool) → is_before t x ≡ b
    → sooner (cond b (Some t) (Some x)) u ≡ sooner (Some x) u
sooner_of t u x h k true e =
    ap (λ b. cond b (Some u) (Some t)) h ∙ sym (ap (λ b. cond b (Some u) (Some x)) (k e))
sooner_of t u x h k false e = refl

sooner_both : (t u : LinkFault) (first : Option LinkFault) → is_before u t ≡ true
    → ((x : LinkFault) → is_before t x ≡ true → is_before u x ≡ true)
    → sooner (sooner first t) u ≡ sooner first u
sooner_both t u None h k = ap (λ b. cond b (Some u) (Some t)) h
sooner_both t u (Some x) h k = sooner_of t u x h (k x) (is_before t x) refl

after_lesser : (file : ℕ) (node : Node) (fs : List LinkFault) (old : Faults)
    → after old (fault_at file node code.Twice ∷ fault_at file node code.Unknown ∷ fs)
    ≡ after old (fault_at file node code.Unknown ∷ fs)
after_lesser file node fs old =
    ap (λ (first : Option LinkFault). after (record { first = first }) fs)
    (sooner_both (fault_at file node code.Twice) (fault_at file node code.Unknown) old.first
    (lex_same file node.number.0)
    (λ x. lex_less file node.number.0 x.site.file x.site.node.0 _))

-- ---- names

raised_same : (a b : List ℕ) → same_names a b ≡ true → raised_all a ≡ raised_all b
raised_same a b h = (bytes_eq-Decides (raised_all a) (raised_all b)).0 h

given_same : (xs : List Parameter) (name word : List ℕ) → same_names name word ≡ true
    → is_given xs name ≡ is_given xs word
given_same xs name word h =
    ap (λ (r : List ℕ). list_any (λ (x : Parameter). bytes_eq (raised_all x.name.name) r) xs)
    (raised_same name word h)

apart : (name v w : List ℕ) (b : Bool) → same_names name v ≡ true → same_names v w ≡ b
    → same_names name w ≡ b
apart name v w b h e =
    ap (λ (r : List ℕ). bytes_eq r (raised_all w)) (raised_same name v h) ∙ e

-- ---- the kind of a parameter

abbrev pick : Bool → Bool → Bool → ParameterKind
pick p i s = cond p kind.Priority (cond i kind.Interval (cond s kind.Single kind.Other))

abbrev priority_name : List ℕ
priority_name = codes "PRIORITY"

abbrev interval_name : List ℕ
interval_name = codes "INTERVAL"

abbrev single_name : List ℕ
single_name = codes "SINGLE"

-- what is noted of a parameter whose name is that word
known_word : (m : Meanings) (file : ℕ) (before : List Parameter) (x : Parameter) (old : Faults)
    (word : List ℕ) (k : ParameterKind) → same_names x.name.name word ≡ true
    → after old (twice_faults file before x ++ kind_faults m file x k)
    ≡ after old (fault_where (is_given before word) (fault_at file x.name.node code.Twice)
    ++ kind_faults m file x k)
known_word m file before x old word k h =
    ap (λ (b : Bool). after old
    (fault_where b (fault_at file x.name.node code.Twice) ++ kind_faults m file x k))
    (given_same before x.name.name word h)

other_word : (m : Meanings) (file : ℕ) (x : Parameter) (old : Faults) (b : Bool)
    → after old (fault_where b (fault_at file x.name.node code.Twice) ++ unknown_faults m file x)
    ≡ after old (unknown_faults m file x)
other_word m file x old true = after_lesser file x.name.node (value_faults m file place.Any x.value) old
other_word m file x old false = refl

by_kind : (m : Meanings) (file : ℕ) (before : List Parameter) (x : Parameter) (old : Faults)
    (p i s : Bool) → same_names x.name.name priority_name ≡ p
    → same_names x.name.name interval_name ≡ i → same_names x.name.name single_name ≡ s
    → after old (twice_faults file before x ++ kind_faults m file x (pick p i s))
    ≡ after old (noted_of m file (given_in before) (pick p i s) x)
by_kind m file before x old true i s hp hi hs =
    known_word m file before x old priority_name kind.Priority hp
by_kind m file before x old false true s hp hi hs =
    known_word m file before x old interval_name kind.Interval hi
by_kind m file before x old false false true hp hi hs =
    known_word m file before x old single_name kind.Single hs
by_kind m file before x old false false false hp hi hs =
    other_word m file x old (is_given before x.name.name)

-- what is noted behind those that are given is what the rules say of the parameter
pub noted_parameter : (m : Meanings) (file : ℕ) (xs : List Parameter) (k : ℕ) (x : Parameter)
    (given : Given) (of : ParameterKind) (mid new : Faults) → given ≡ given_in (take k xs)
    → of ≡ parameter_kind x → new ≡ after mid (noted_of m file given of x)
    → new ≡ after mid (parameter_faults m file xs k x)
noted_parameter m file xs k x given of mid new g e h =
    h ∙ ap (λ (n : Given). after mid (noted_of m file n of x)) g
    ∙ ap (λ (o : ParameterKind). after mid (noted_of m file (given_in (take k xs)) o x)) e
    ∙ sym (by_kind m file (take k xs) x mid
    (same_names x.name.name priority_name) (same_names x.name.name interval_name)
    (same_names x.name.name single_name) refl refl refl)

-- ---- one more is given

or_true : (b : Bool) → (b || true) ≡ true
or_true true = refl
or_true false = refl

or_false : (b : Bool) → (b || false) ≡ b
or_false true = refl
or_false false = refl

more : (xs : List Parameter) (x : Parameter) (word : List ℕ) (b : Bool)
    → same_names x.name.name word ≡ b → is_given (xs ++ x ∷ []) word ≡ (is_given xs word || b)
more xs x word b h =
    list_any-append (λ (y : Parameter). same_names y.name.name word) xs (x ∷ [])
    ∙ ap (λ c. is_given xs word || c) (or_false (same_names x.name.name word) ∙ h)

more_true : (xs : List Parameter) (x : Parameter) (word : List ℕ)
    → same_names x.name.name word ≡ true → is_given (xs ++ x ∷ []) word ≡ true
more_true xs x word h = more xs x word true h ∙ or_true (is_given xs word)

more_false : (xs : List Parameter) (x : Parameter) (word : List ℕ)
    → same_names x.name.name word ≡ false → is_given (xs ++ x ∷ []) word ≡ is_given xs word
more_false xs x word h = more xs x word false h ∙ or_false (is_given xs word)

abbrev three : Bool → Bool → Bool → Given
three p i s = record { priority = p; interval = i; single = s }

all_three : (p p' i i' s s' : Bool) → p ≡ p' → i ≡ i' → s ≡ s' → three p i s ≡ three p' i' s'
all_three p p' i i' s s' e f h =
    ap (λ b. three b i s) e ∙ ap (λ b. three p' b s) f ∙ ap (λ b. three p' i' b) h

given_kind : (xs : List Parameter) (x : Parameter) (p i s : Bool)
    → same_names x.name.name priority_name ≡ p → same_names x.name.name interval_name ≡ i
    → same_names x.name.name single_name ≡ s
    → given_in (xs ++ x ∷ []) ≡ and_given (given_in xs) (pick p i s)
given_kind xs x true i s hp hi hs =
    all_three _ _ _ _ _ _ (more_true xs x priority_name hp)
    (more_false xs x interval_name (apart x.name.name priority_name interval_name false hp refl))
    (more_false xs x single_name (apart x.name.name priority_name single_name false hp refl))
given_kind xs x false true s hp hi hs =
    all_three _ _ _ _ _ _ (more_false xs x priority_name hp) (more_true xs x interval_name hi)
    (more_false xs x single_name (apart x.name.name interval_name single_name false hi refl))
given_kind xs x false false true hp hi hs =
    all_three _ _ _ _ _ _ (more_false xs x priority_name hp) (more_false xs x interval_name hi)
    (more_true xs x single_name hs)
given_kind xs x false false false hp hi hs =
    all_three _ _ _ _ _ _ (more_false xs x priority_name hp) (more_false xs x interval_name hi)
    (more_false xs x single_name hs)

pub given_more : (xs : List Parameter) (k : ℕ) (x : Parameter) (given new : Given)
    (of : ParameterKind) → k < length xs → x ≡ get_or xs k x → given ≡ given_in (take k xs)
    → of ≡ parameter_kind x → new ≡ and_given given of → new ≡ given_in (take (k + 1) xs)
given_more xs k x given new of l is g e h =
    h ∙ ap (λ (n : Given). and_given n of) g
    ∙ ap (λ (o : ParameterKind). and_given (given_in (take k xs)) o) e
    ∙ sym (given_kind (take k xs) x (same_names x.name.name priority_name)
    (same_names x.name.name interval_name) (same_names x.name.name single_name) refl refl refl)
    ∙ ap given_in (sym (one_more xs k x l is))
