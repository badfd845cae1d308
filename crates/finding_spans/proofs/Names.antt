-- The names of a declaration, and which of them holds a node.
use Rattle.std.proofs.Common.{◌≡◌, ℕ, zero, suc, ◌+◌, ◌<◌, ◌≤◌, Bool, true, false, ◌||◌, ltb, List, [], ◌∷◌, ◌++◌, length, get_or, Some, refl, ap, sym, ◌∙◌, subst, inl, inr, arith}
use Rattle.std.proofs.lemmas.Bool.{or_parts, both_ways, cond-true, cond-false, eq-eqb, eqb-true, ne_eqb, lt-ltb, le-ltb, or_cases, or_left, or_right, false_from_ne_true}
use Rattle.std.proofs.lemmas.Option.{none-some, same_Some, slice_get_read, slice_get_past}
use Rattle.std.specs.Prelude.{map, Contains, nat_eq, slice_get}
use Rattle.std.specs.List.{filter, prefix_len}
use Rattle.std.specs.List.Sorted.{IsNonDecreasingBy, IsPartitionedBy, IsPartitionPoint}
use Rattle.std.proofs.lemmas.List.Sorted.{IsPartitionedBy-ltb}
use Rattle.st_tree.specs.declared.node.Node.{Node}
use Rattle.st_tree.specs.declared.node.NodeNo.{NodeNo}
use Rattle.first_form.specs.declared.tree.Identifier.{Identifier}
use Rattle.first_form.specs.declared.tree.Decl.{Decl}
use Rattle.first_form.specs.Nodes.{CountsFrom, name_node, decl_nodes}
use Rattle.finding_spans.specs.Places.{Holder, has_number, alone, name_holders, decl_holders, holds, last_of}
use Rattle.finding_spans.specs.Searches.{IsAmong}
use Rattle.finding_spans.proofs.Points.{point_is, rising_cons}
use Rattle.first_form.proofs.Parts.{counts_left}
use Rattle.finding_spans.proofs.Numbers.{has_in, has_not, contains_cases}
use Rattle.finding_spans.proofs.Parts.{has_append}

pub filter_yes : {X : Type 0} (p : X → Bool) (x : X) (xs : List X) → p x ≡ true → filter p (x ∷ xs) ≡ x ∷ filter p xs
filter_yes p x xs h = cond-true (p x) (x ∷ filter p xs) (filter p xs) h

pub filter_no : {X : Type 0} (p : X → Bool) (x : X) (xs : List X) → p x ≡ false → filter p (x ∷ xs) ≡ filter p xs
filter_no p x xs h = cond-false (p x) (x ∷ filter p xs) (filter p xs) h

-- ---- names that each hold themselves

pub alone_none : (number : NodeNo) (nodes : List Node) → has_number number nodes ≡ false → filter (holds number) (map alone nodes) ≡ []
alone_none number [] h = refl
alone_none number (node ∷ nodes) h =
    let parts = or_parts (nat_eq node.number.0 number.0) (has_number number nodes) h in
    filter_no (holds number) (alone node) (map alone nodes) (ap (λ b. b || false) parts.0) ∙ alone_none number nodes parts.1

has_name : (number : NodeNo) (names : List Identifier) (name : Identifier) → Contains names name → name.node.number.0 ≡ number.0 → has_number number (map name_node names) ≡ true
has_name number [] name h e = absurd (omega (arith, h.1))
has_name number (x ∷ names) name h e =
    elim (contains_cases x names name h) [
      | inl same ↦ or_left (nat_eq x.node.number.0 number.0) (has_number number (map name_node names)) (eq-eqb x.node.number.0 number.0 (ap (λ (z : Identifier). z.node.number.0) same ∙ e))
      | inr later ↦ or_right (nat_eq x.node.number.0 number.0) (has_number number (map name_node names)) (has_name number names name later e)
    ]

alone_one : (n : ℕ) (number : NodeNo) (names : List Identifier) (name : Identifier) → CountsFrom n (map name_node names) → Contains names name → name.node.number.0 ≡ number.0
    → filter (holds number) (map alone (map name_node names)) ≡ alone name.node ∷ []
alone_one n number [] name c h e = absurd (omega (arith, h.1))
alone_one n number (x ∷ names) name c h e =
    let at : x.node.number.0 ≡ n = c.0 in
    elim (contains_cases x names name h) [
      | inl same ↦
          let own : x.node.number.0 ≡ number.0 = ap (λ (z : Identifier). z.node.number.0) same ∙ e in
          let later = alone_none number (map name_node names) (has_not (suc n) number (map name_node names) c.1 (omega arith)) in
          filter_yes (holds number) (alone x.node) (map alone (map name_node names)) (ap (λ b. b || false) (eq-eqb x.node.number.0 number.0 own))
          ∙ ap (λ (hs : List Holder). alone x.node ∷ hs) later ∙ ap (λ (z : Identifier). alone z.node ∷ []) same
      | inr later ↦
          let within = has_in (suc n) number (map name_node names) c.1 (has_name number names name later e) in
          filter_no (holds number) (alone x.node) (map alone (map name_node names)) (ap (λ b. b || false) (ne_eqb x.node.number.0 number.0 (λ own. omega arith)))
          ∙ alone_one (suc n) number names name c.1 later e
    ]

-- ---- the search among the names

abbrev pub name_key : Identifier → ℕ
name_key name = name.node.number.0

abbrev pub before : NodeNo → Identifier → Bool
before number name = ltb (name_key name) number.0

name_at : (n : ℕ) (number : NodeNo) (names : List Identifier) → CountsFrom n (map name_node names) → has_number number (map name_node names) ≡ true
    → (name : Identifier) × ((slice_get names (prefix_len (before number) names) ≡ Some name) × (name_key name ≡ number.0))
name_at n number [] c h = absurd (both_ways false refl h)
name_at n number (x ∷ names) c h =
    elim (or_cases (nat_eq x.node.number.0 number.0) (has_number number (map name_node names)) h) [
      | inl own ↦
          let e = eqb-true x.node.number.0 number.0 own in
          let none : prefix_len (before number) (x ∷ names) ≡ 0 = cond-false (before number x) (1 + prefix_len (before number) names) 0 (le-ltb (name_key x) number.0 (omega arith)) in
          (x, (ap (slice_get (x ∷ names)) none, e))
      | inr later ↦
          let at : name_key x ≡ n = c.0 in
          let within = has_in (suc n) number (map name_node names) c.1 later in
          let one : prefix_len (before number) (x ∷ names) ≡ 1 + prefix_len (before number) names = cond-true (before number x) (1 + prefix_len (before number) names) 0 (lt-ltb (name_key x) number.0 (omega arith)) in
          let next : prefix_len (before number) (x ∷ names) ≡ suc (prefix_len (before number) names) = omega arith in
          let rest = name_at (suc n) number names c.1 later in
          (rest.0, (ap (slice_get (x ∷ names)) next ∙ rest.1.0, rest.1.1))
    ]

no_earlier : (n : ℕ) (names : List Identifier) → CountsFrom n (map name_node names) → (j : ℕ) (d : Identifier) → j < length names → n ≤ name_key (get_or names j d)
no_earlier n [] c j d h = absurd (omega arith)
no_earlier n (x ∷ names) c zero d h = let at : name_key x ≡ n = c.0 in omega arith
no_earlier n (x ∷ names) c (suc j) d h = let k = no_earlier (suc n) names c.1 j d (omega arith) in omega arith

rising : (n : ℕ) (names : List Identifier) → CountsFrom n (map name_node names) → IsNonDecreasingBy name_key names
rising n [] c = λ i j d l h. absurd (omega arith)
rising n (x ∷ names) c =
    let at : name_key x ≡ n = c.0 in
    rising_cons name_key x names (λ j d l. let k = no_earlier (suc n) names c.1 j d l in omega arith) (rising (suc n) names c.1)

-- ---- the names of a declaration

abbrev Point : NodeNo → List Identifier → ℕ → Type 0
Point number names count = IsPartitionedBy (before number) names → IsPartitionPoint (λ name. before number name ≡ true) (λ name. before number name ≡ false) names count

name_counts : (number : NodeNo) (decl : Decl) (among : IsAmong number (decl_nodes decl)) → CountsFrom (suc among.from) (map name_node decl.names)
name_counts number decl among = counts_left (suc among.from) (map name_node decl.names) (decl.spec.node ∷ []) among.counts.1

no_name : (number : NodeNo) (decl : Decl) (count : ℕ) → IsAmong number (decl_nodes decl) → count ≤ length decl.names → Point number decl.names count
    → ((name : Identifier) → slice_get decl.names count ≡ Some name → name_key name ≡ number.0 → ⊥) → has_number number (map name_node decl.names) ≡ false
no_name number decl count among bound point other =
    false_from_ne_true _ (λ has.
    let counts = name_counts number decl among in
    let name = name_at (suc among.from) number decl.names counts has in
    let is_count = point_is (before number) decl.names count bound (point (IsPartitionedBy-ltb name_key decl.names number.0 (rising (suc among.from) decl.names counts))) in
    other name.0 (ap (slice_get decl.names) (sym is_count) ∙ name.1.0) name.1.1)

-- where the name at the place that the search gives in a slice isn't the node, no name is
pub no_name_in : (number : NodeNo) (decl : Decl) (slice : List Identifier) (count : ℕ) → slice ≡ decl.names → IsAmong number (decl_nodes decl) → count ≤ length slice → Point number slice count
    → ((name : Identifier) → slice_get slice count ≡ Some name → name_key name ≡ number.0 → ⊥) → has_number number (map name_node decl.names) ≡ false
no_name_in number decl slice count e among =
    let P : List Identifier → Type 0 = λ names. count ≤ length names → Point number names count → ((name : Identifier) → slice_get names count ≡ Some name → name_key name ≡ number.0 → ⊥)
    → has_number number (map name_node decl.names) ≡ false in
    subst P (sym e) (no_name number decl count among)

-- a name in the slice that has another number isn't the node, nor is none
pub other_name : (number : NodeNo) (slice : List Identifier) (count : ℕ) (name : Identifier) → count < length slice → name ≡ get_or slice count name → nat_eq name.node.number.0 number.0 ≡ false
    → (n : Identifier) → slice_get slice count ≡ Some n → name_key n ≡ number.0 → ⊥
other_name number slice count name l e f n s k =
    let same : name ≡ n = same_Some name n (sym (slice_get_read slice (length slice) count name refl l e) ∙ s) in
    both_ways _ f (eq-eqb name.node.number.0 number.0 (ap (λ (z : Identifier). z.node.number.0) same ∙ k))

pub past_names : (number : NodeNo) (slice : List Identifier) (count : ℕ) → length slice ≤ count → (n : Identifier) → slice_get slice count ≡ Some n → name_key n ≡ number.0 → ⊥
past_names number slice count l n s k = none-some n (sym (slice_get_past slice count l) ∙ s)

first_holds : (number : NodeNo) (held : List Node) (names : List Identifier) (first : Identifier) → has_number number held ≡ true → slice_get names 0 ≡ Some first → has_number number (map name_node names) ≡ false
    → last_of (filter (holds number) (name_holders (map name_node names) held)) ≡ Some first.node
first_holds number held [] first h e none = absurd (none-some first e)
first_holds number held (x ∷ names) first h e none =
    let parts = or_parts (nat_eq x.node.number.0 number.0) (has_number number (map name_node names)) none in
    let own : Holder = record { node = x.node; held = held } in
    ap last_of (filter_yes (holds number) own (map alone (map name_node names)) h ∙ ap (λ (hs : List Holder). own ∷ hs) (alone_none number (map name_node names) parts.1))
    ∙ ap (λ (z : Identifier). Some z.node) (same_Some x first e)

name_holds : (n : ℕ) (number : NodeNo) (held : List Node) (names : List Identifier) (name : Identifier) → has_number number held ≡ true → CountsFrom n (map name_node names) → Contains names name → name_key name ≡ number.0
    → last_of (filter (holds number) (name_holders (map name_node names) held)) ≡ Some name.node
name_holds n number held [] name h c k e = absurd (omega (arith, k.1))
name_holds n number held (x ∷ names) name h c k e =
    let at : x.node.number.0 ≡ n = c.0 in
    let own : Holder = record { node = x.node; held = held } in
    let split = filter_yes (holds number) own (map alone (map name_node names)) h in
    elim (contains_cases x names name k) [
      | inl same ↦
          let is : x.node.number.0 ≡ number.0 = ap (λ (z : Identifier). z.node.number.0) same ∙ e in
          let later = alone_none number (map name_node names) (has_not (suc n) number (map name_node names) c.1 (omega arith)) in
          ap last_of (split ∙ ap (λ (hs : List Holder). own ∷ hs) later) ∙ ap (λ (z : Identifier). Some z.node) same
      | inr later ↦ ap last_of (split ∙ ap (λ (hs : List Holder). own ∷ hs) (alone_one (suc n) number names name c.1 later e))
    ]

pub held_by_first : (number : NodeNo) (decl : Decl) (first : Identifier) → IsAmong number (decl_nodes decl) → slice_get decl.names 0 ≡ Some first → has_number number (map name_node decl.names) ≡ false
    → last_of (filter (holds number) (decl_holders decl)) ≡ Some first.node
held_by_first number decl first among e none = first_holds number (decl_nodes decl) decl.names first among.has e none

pub held_by_name : (number : NodeNo) (decl : Decl) (name : Identifier) → IsAmong number (decl_nodes decl) → Contains decl.names name → name_key name ≡ number.0
    → last_of (filter (holds number) (decl_holders decl)) ≡ Some name.node
held_by_name number decl name among h e = name_holds (suc among.from) number (decl_nodes decl) decl.names name among.has (name_counts number decl among) h e

names_quiet : (number : NodeNo) (held : List Node) (names : List Identifier) → has_number number held ≡ false → has_number number (map name_node names) ≡ false
    → filter (holds number) (name_holders (map name_node names) held) ≡ []
names_quiet number held [] h none = refl
names_quiet number held (x ∷ names) h none =
    let parts = or_parts (nat_eq x.node.number.0 number.0) (has_number number (map name_node names)) none in
    filter_no (holds number) (record { node = x.node; held = held }) (map alone (map name_node names)) h ∙ alone_none number (map name_node names) parts.1

pub decl_quiet : (number : NodeNo) (decl : Decl) → has_number number (decl_nodes decl) ≡ false → filter (holds number) (decl_holders decl) ≡ []
decl_quiet number decl h =
    let within = or_parts (nat_eq decl.node.number.0 number.0) (has_number number (map name_node decl.names ++ decl.spec.node ∷ [])) h in
    let parts = or_parts _ _ (sym (has_append number (map name_node decl.names) (decl.spec.node ∷ []) _ _ refl refl) ∙ within.1) in
    names_quiet number (decl_nodes decl) decl.names h parts.0
