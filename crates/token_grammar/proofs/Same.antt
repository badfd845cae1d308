-- Rules that spell the same words, and what is passed from the one to the other.
use Rattle.std.proofs.Common.{ℕ, zero, suc, ◌+◌, Bool, List, ◌∷◌, inl, inr}
use Rattle.token_grammar.specs.declared.token.TokenKind.{TokenKind}
use Rattle.token_grammar.specs.Texts.{Lexeme}
use Rattle.token_grammar.specs.steps.Parsers.{Parser}
use Rattle.token_grammar.specs.Grammar.{Word, Rule, ◌>>=◌, ◌or◌, scoped, deeper, node, times, many}
use Rattle.token_grammar.proofs.Laws.{Exact}
use Rattle.token_grammar.proofs.Steps.{exact_same, told_same}
use Rattle.token_grammar.proofs.Starts.{Starts, Opens, IsLevel}
use Rattle.token_grammar.proofs.Loose.{Loose}
use Rattle.token_grammar.proofs.Forms.{Form, Avoids}

-- each word that the one spells is spelled by the other, with the same value and depths
pub record SubRule {A : Type 0} (L M : Rule A) : Type 0 where
  pub to : (d : ℕ) (w : Word) (x : A) (e : ℕ) → L d w x e → M d w x e

-- both spell the same words
pub record SameRule {A : Type 0} (L M : Rule A) : Type 0 where
  pub to : SubRule L M
  pub from : SubRule M L

-- ---- the rule itself, and a rule between

pub sub_self : {A : Type 0} {L : Rule A} → SubRule L L
sub_self = record { to = λ d w x e l. l }

pub sub_over : {A : Type 0} {L M N : Rule A} → SubRule L M → SubRule M N → SubRule L N
sub_over h k = record { to = λ d w x e l. k.to d w x e (h.to d w x e l) }

pub same_self : {A : Type 0} {L : Rule A} → SameRule L L
same_self = record { to = sub_self; from = sub_self }

pub same_back : {A : Type 0} {L M : Rule A} → SameRule L M → SameRule M L
same_back h = record { to = h.from; from = h.to }

pub same_over : {A : Type 0} {L M N : Rule A} → SameRule L M → SameRule M N → SameRule L N
same_over h k = record { to = sub_over h.to k.to; from = sub_over k.from h.from }

-- ---- made of such rules

pub sub_bind : {A B : Type 0} {L L2 : Rule A} {M M2 : A → Rule B}
    → SubRule L L2 → ((x : A) → SubRule (M x) (M2 x)) → SubRule (L >>= M) (L2 >>= M2)
sub_bind h k = record {
  to = λ d w y e (u, v, x, m, eq, l, r). (u, v, x, m, eq, h.to d u x m l, (k x).to m v y e r);
}

-- behind the same rule
pub sub_then : {A B : Type 0} {L : Rule A} {M M2 : A → Rule B}
    → ((x : A) → SubRule (M x) (M2 x)) → SubRule (L >>= M) (L >>= M2)
sub_then k = sub_bind sub_self k

-- before the same rule
pub sub_before : {A B : Type 0} {L L2 : Rule A} {M : A → Rule B}
    → SubRule L L2 → SubRule (L >>= M) (L2 >>= M)
sub_before h = sub_bind h (λ x. sub_self)

pub sub_or : {A : Type 0} {L L2 M M2 : Rule A}
    → SubRule L L2 → SubRule M M2 → SubRule (L or M) (L2 or M2)
sub_or {A} {L} {L2} {M} {M2} h k = record {
  to = λ d w x e either. elim either [
    | inl l ↦ inl (h.to d w x e l)
    | inr l ↦ inr (k.to d w x e l)
  ];
}

pub sub_either : {A : Type 0} {L M N : Rule A} → SubRule L N → SubRule M N → SubRule (L or M) N
sub_either {A} {L} {M} {N} h k = record {
  to = λ d w x e either. elim either [ inl l ↦ h.to d w x e l | inr l ↦ k.to d w x e l ];
}

-- either rule, before another
pub bind_or : {A B : Type 0} {L M : Rule A} {N : A → Rule B}
    → SameRule ((L or M) >>= N) ((L >>= N) or (M >>= N))
bind_or {A} {B} {L} {M} {N} = record {
  to = record {
    to = λ d w y e (u, v, x, m, eq, either, r). elim either [
      | inl l ↦ inl (u, v, x, m, eq, l, r)
      | inr l ↦ inr (u, v, x, m, eq, l, r)
    ];
  };
  from = sub_either (record { to = λ d w y e (u, v, x, m, eq, l, r). (u, v, x, m, eq, inl l, r) })
      (record { to = λ d w y e (u, v, x, m, eq, l, r). (u, v, x, m, eq, inr l, r) });
}

pub sub_scoped : {A : Type 0} {L L2 : Rule A} → SubRule L L2 → SubRule (scoped L) (scoped L2)
sub_scoped h = record { to = λ d w x e (m, l, same). (m, h.to d w x m l, same) }

pub sub_deeper : {A : Type 0} {L L2 : Rule A} → SubRule L L2 → SubRule (deeper L) (deeper L2)
sub_deeper h = record { to = λ d w x e l. h.to (d + 1) w x e l }

pub sub_node : {A B : Type 0} (make : ℕ → ℕ → A → B) {L L2 : Rule A}
    → SubRule L L2 → SubRule (node make L) (node make L2)
sub_node make h = record { to = λ d w y e (x, l, is). (x, h.to d w x e l, is) }

sub_times : {A : Type 0} {step other : A → Rule A} → ((a : A) → SubRule (step a) (other a))
    → (n : ℕ) (a : A) (d : ℕ) (w : Word) (x : A) (e : ℕ) → times step n a d w x e
    → times other n a d w x e
sub_times h zero a d w x e l = l
sub_times h (suc n) a d w x e (u, v, b, m, eq, l, r) =
    (u, v, b, m, eq, (h a).to d u b m l, sub_times h n b m v x e r)

pub sub_many : {A : Type 0} {step other : A → Rule A}
    → ((a : A) → SubRule (step a) (other a)) → (a : A) → SubRule (many step a) (many other a)
sub_many h a = record { to = λ d w x e (n, l). (n, sub_times h n a d w x e l) }

-- ---- made of rules that spell the same

pub same_bind : {A B : Type 0} {L L2 : Rule A} {M M2 : A → Rule B}
    → SameRule L L2 → ((x : A) → SameRule (M x) (M2 x)) → SameRule (L >>= M) (L2 >>= M2)
same_bind h k =
    record { to = sub_bind h.to (λ x. (k x).to); from = sub_bind h.from (λ x. (k x).from) }

pub same_or : {A : Type 0} {L L2 M M2 : Rule A}
    → SameRule L L2 → SameRule M M2 → SameRule (L or M) (L2 or M2)
same_or h k = record { to = sub_or h.to k.to; from = sub_or h.from k.from }

pub same_scoped : {A : Type 0} {L L2 : Rule A} → SameRule L L2 → SameRule (scoped L) (scoped L2)
same_scoped h = record { to = sub_scoped h.to; from = sub_scoped h.from }

pub same_deeper : {A : Type 0} {L L2 : Rule A} → SameRule L L2 → SameRule (deeper L) (deeper L2)
same_deeper h = record { to = sub_deeper h.to; from = sub_deeper h.from }

pub same_node : {A B : Type 0} (make : ℕ → ℕ → A → B) {L L2 : Rule A}
    → SameRule L L2 → SameRule (node make L) (node make L2)
same_node make h = record { to = sub_node make h.to; from = sub_node make h.from }

pub same_many : {A : Type 0} {step other : A → Rule A}
    → ((a : A) → SameRule (step a) (other a)) → (a : A) → SameRule (many step a) (many other a)
same_many h a = record { to = sub_many (λ b. (h b).to) a; from = sub_many (λ b. (h b).from) a }

-- ---- what holds of each word that a rule spells

pub level_sub : {A : Type 0} {L M : Rule A} → SubRule L M → IsLevel M → IsLevel L
level_sub h level d w x e l = level d w x e (h.to d w x e l)

pub starts_sub : {A : Type 0} {L M : Rule A} {ks : List TokenKind} → SubRule L M → Starts M ks
    → Starts L ks
starts_sub h starts = record { sees = λ d w x e l rest. starts.sees d w x e (h.to d w x e l) rest }

pub loose_sub : {A : Type 0} {L M : Rule A} {ks : List TokenKind} → SubRule L M → Loose M ks
    → Loose L ks
loose_sub h loose = record { sees = λ d w x e l. loose.sees d w x e (h.to d w x e l) }

pub avoids_sub : {A : Type 0} {L M : Rule A} (k : TokenKind) → SubRule L M → Avoids M k → Avoids L k
avoids_sub k h avoids d w x e l = avoids d w x e (h.to d w x e l)

-- that a rule has such words
pub opens_sub : {A : Type 0} {L M : Rule A} {ks : List TokenKind} → SubRule L M → Opens L ks
    → Opens M ks
opens_sub h opens = record {
  word = λ d t r e. let (at, w, x, m, l) =
      opens.word d t r e in (at, w, x, m, h.to d ((t, at) ∷ w) x m l);
}

-- ---- what reads a rule reads each that spells the same

pub exact_as : {A : Type 0} {V : ℕ → Type 0} {p : Parser A} {L M : Rule A} {more : List Lexeme
    → Bool}
    → SameRule L M → Exact V p L more → Exact V p M more
exact_as same h = exact_same h (λ d v. v) same.to.to same.from.to (λ rest e. e)

pub form_same : {A : Type 0} {V : ℕ → Type 0} {p : Parser A} {L M : Rule A} {ks es : List TokenKind}
    → SameRule L M → Form V p L ks es → Form V p M ks es
form_same same h = record {
  exact = exact_as same h.exact;
  starts = starts_sub same.from h.starts;
  opens = opens_sub same.to h.opens;
}

-- ---- some rule of a list of rules

abbrev pub some_of : {A : Type 0} → (ℕ → Rule A) → Rule A
some_of rules d w x e = (n : ℕ) × rules n d w x e

-- each of the one is part of one of the other
pub sub_some_of : {A : Type 0} {rules others : ℕ → Rule A} (place : ℕ → ℕ)
    → ((n : ℕ) → SubRule (rules n) (others (place n))) → SubRule (some_of rules) (some_of others)
sub_some_of place h = record { to = λ d w x e (n, l). (place n, (h n).to d w x e l) }

pub starts_some_of : {A : Type 0} {rules : ℕ → Rule A} {ks : List TokenKind}
    → ((n : ℕ) → Starts (rules n) ks) → Starts (some_of rules) ks
starts_some_of h = record { sees = λ d w x e (n, l) rest. (h n).sees d w x e l rest }

pub loose_some_of : {A : Type 0} {rules : ℕ → Rule A} {ks : List TokenKind}
    → ((n : ℕ) → Loose (rules n) ks) → Loose (some_of rules) ks
loose_some_of h = record { sees = λ d w x e (n, l). (h n).sees d w x e l }

pub level_some_of : {A : Type 0} {rules : ℕ → Rule A} → ((n : ℕ) → IsLevel (rules n))
    → IsLevel (some_of rules)
level_some_of h d w x e (n, l) = h n d w x e l

-- What reads each of them reads some of them.
pub exact_some_of : {A : Type 0} {V : ℕ → Type 0} {p : Parser A} {rules : ℕ → Rule A}
    {more : List Lexeme → Bool}
    → ((n : ℕ) → Exact V p (rules n) more) → Exact V p (some_of rules) more
exact_some_of {p} {rules} h = record {
  told = λ i v. told_same (rules zero) (some_of rules) i (p i) ((h zero).told i v)
      (λ d w x e l. (zero, l));
  complete = λ d w x e v (n, l) last rest ends_here. (h n).complete d w x e v l last rest ends_here;
  local = (h zero).local;
  cut = (h zero).cut;
  some = λ d. let s = (h zero).some d in
      record { word = s.word; value = s.value; depth = s.depth; spelled = (zero, s.spelled) };
  rises = λ d w x e (n, l). (h n).rises d w x e l;
}
