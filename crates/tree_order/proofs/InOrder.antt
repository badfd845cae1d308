-- The nodes of a tree are numbered in the order of the text.
use Rattle.std.proofs.Common.{◌≡◌, ℕ, zero, suc, ◌+◌, ◌<◌, ◌≤◌, Bool, true, false, cond}
use Rattle.std.proofs.Common.{nat_eq, ◌≢◌, List, [], ◌∷◌, ◌++◌, map, filter, length, drop, Option}
use Rattle.std.proofs.Common.{Some, None, slice_get, refl, sym, ap, subst, ◌∙◌, arith, inl, inr}
use Rattle.std.proofs.Common.{◌⊎◌}
use Rattle.std.specs.Prelude.{Contains, count_by, flat_map, filter_map}
use Rattle.std.specs.List.{cons_option}
use Rattle.std.specs.Option.{option_map}
use Rattle.std.proofs.lemmas.Bool.{eqb-true, eq-eqb}
use Rattle.token_grammar.specs.declared.token.Token.{Token}
use Rattle.token_grammar.specs.Texts.{lexemes}
use Rattle.token_grammar.specs.Grammar.{Word, lexemes_of}
use Rattle.token_grammar.specs.Kept.{is_kept}
use Rattle.st_lexer.specs.Cut.{IsCut, mark_length}
use Rattle.st_lexer.specs.Laws.{TokensIn}
use Rattle.st_tree.specs.Places.{node_at}
use Rattle.st_tree.specs.Feeds.{feeds_from}
use Rattle.st_tree.specs.declared.node.Node.{Node}
use Rattle.st_tree.specs.declared.file.Comment.{Comment}
use Rattle.st_tree.specs.declared.file.FilePart.{FilePart}
use Rattle.st_tree.specs.declared.file.FilePart.TheVariants as part
use Rattle.tree_numbers.specs.NodeLists.{nodes_of_parts, nodes_of_file_part, nodes_of_unit}
use Rattle.tree_numbers.specs.NodeLists.{nodes_of_types, nodes_of_globals, nodes_of_config}
use Rattle.tree_numbers.specs.NumberedAt.{before, numbered_at}
use Rattle.tree_numbers.specs.Numbers.{numbered_parts}
use Rattle.tree_numbers.specs.Laws.{RightNumbers}
use Rattle.st_units.specs.Parts.{unit_of, types_of, globals_of, config_of, file_of}
use Rattle.st_units.specs.Files.{IsFile}
use Rattle.st_units.specs.SourceTrees.{is_comment, comments_among, comments_from, starts_of}
use Rattle.st_units.specs.SourceTrees.{places_of, tree_of}
use Rattle.tree_order.specs.Order.{nodes_of_tree, number_of, Surrounds, AreApart}
use Rattle.tree_order.specs.Order.{AreNumberedInOrder}
use Rattle.tree_order.specs.Order.{NodesInOrder}
use Rattle.tree_order.proofs.Lists.{Among, among_contained, among_either}
use Rattle.tree_order.proofs.Lists.{among_left, among_right, first_of, same_places, count_append}
use Rattle.tree_order.proofs.Lists.{count_cons, count_all}
use Rattle.tree_order.proofs.NodesOfWords.{AreInside, ComesBefore, ComesBeforeAll, AreNested, AreOf}
use Rattle.tree_order.proofs.NodesOfWords.{StandInOrder, StartsAt, EndsAt, inside_wider}
use Rattle.tree_order.proofs.TokenPlaces.{TokensSpan, tokens_span, span_rises, filter_span}
use Rattle.tree_order.proofs.TokenPlaces.{word_spans, beside}
use Rattle.tree_order.proofs.Merging.{numbered_by, Shuffled, neither, left, right}
use Rattle.tree_order.proofs.Merging.{CountFrom, Merged, AreBehind, HaveBytes, IsBesideAll}
use Rattle.tree_order.proofs.Merging.{AreBeside, Agrees, merge}
use Rattle.tree_order.proofs.Merging as merging
use Rattle.tree_order.proofs.FileInstances.{file_nodes}

-- ---- from a list in which each node has the number of its place

number_among : (number : ℕ) (ns : List Node) (a : Node) → CountFrom number ns → Among a ns →
    (number ≤ number_of a) × (number_of a < number + length ns)
number_among number [] a count h = absurd h
number_among number (n ∷ ns) a count (inl is) =
    let same : number_of a ≡ number = ap number_of is ∙ count.0 in
    (omega (arith, same), omega (arith, same))
number_among number (n ∷ ns) a count (inr h) =
    let r = number_among (suc number) ns a count.1 h in (omega (arith, r.0), omega (arith, r.1))

precedes_among : (a b : Node) (ns : List Node) → ComesBeforeAll a ns → Among b ns → ComesBefore a b
precedes_among a b [] h k = absurd k
precedes_among a b (n ∷ ns) h (inl is) = subst (λ x. ComesBefore a x) (sym is) h.0
precedes_among a b (n ∷ ns) h (inr k) = precedes_among a b ns h.1 k

-- the first of two nodes
abbrev Compared : Node → Node → Type 0
Compared a b =
    (a ≡ b) ⊎ ((number_of a < number_of b) × ComesBefore a b)
    ⊎ ((number_of b < number_of a) × ComesBefore b a)

compare : (number : ℕ) (ns : List Node) (a b : Node) → CountFrom number ns → AreNested ns →
    Among a ns → Among b ns → Compared a b
compare number [] a b count nested h k = absurd h
compare number (n ∷ ns) a b count nested (inl is) (inl same) = inl (is ∙ sym same)
compare number (n ∷ ns) a b count nested (inl is) (inr k) =
    let place = number_among (suc number) ns b count.1 k in
    let same : number_of a ≡ number = ap number_of is ∙ count.0 in
    inr (inl (
      omega (arith, place.0, same),
      subst (λ x. ComesBefore x b) (sym is)
          (precedes_among n b ns nested.0 k),
    ))
compare number (n ∷ ns) a b count nested (inr h) (inl same) =
    let place = number_among (suc number) ns a count.1 h in
    let number_is : number_of b ≡ number = ap number_of same ∙ count.0 in
    inr (inr (
      omega (arith, place.0, number_is),
      subst (λ x. ComesBefore x a) (sym same)
          (precedes_among n a ns nested.0 h),
    ))
compare number (n ∷ ns) a b count nested (inr h) (inr k) =
    compare (suc number) ns a b count.1 nested.1 h k

abbrev has_number : ℕ → Node → Bool
has_number number node = nat_eq (number_of node) number

count_none : (number from : ℕ) (ns : List Node) → CountFrom from ns → number < from →
    count_by (has_number number) ns ≡ 0
count_none number from [] count less = refl
count_none number from (n ∷ ns) count less =
    count_cons (has_number number) n ns ∙ none (has_number number n) refl
    (count_none number (suc from) ns count.1 (omega (arith, less)))
  where
    none : (b : Bool) → has_number number n ≡ b → count_by (has_number number) ns ≡ 0 →
        cond b 1 0 + count_by (has_number number) ns ≡ 0
    none true is rest = absurd (omega (arith, eqb-true (number_of n) number is, count.0, less))
    none false is rest = omega (arith, rest)

count_once : (number from : ℕ) (ns : List Node) → CountFrom from ns → from ≤ number →
    number < from + length ns → count_by (has_number number) ns ≡ 1
count_once number from [] count low high = absurd (omega (arith, low, high))
count_once number from (n ∷ ns) count low high =
    count_cons (has_number number) n ns ∙ one (has_number number n) refl
    (λ less. count_none number (suc from) ns count.1 less) (λ more. count_once number (suc from)
    ns count.1 more (omega (arith, high)))
  where
    one : (b : Bool) → has_number number n ≡ b →
        (number < suc from → count_by (has_number number) ns ≡ 0) →
        (suc from ≤ number → count_by (has_number number) ns ≡ 1)
        → cond b 1 0 + count_by (has_number number) ns ≡ 1
    one true is here later =
        let rest = here (omega (arith, eqb-true (number_of n) number is, count.0))
        in omega (arith, rest)
    one false is here later = let rest = later (omega (arith, low, differs)) in omega (arith, rest)
      where
        differs : number ≢ from
        differs same = let yes = eq-eqb (number_of n) number (count.0 ∙ sym same) in absurd cc

-- ---- one list of two

shuffled_left : (a : Node) {all ns cs : List Node} → Shuffled all ns cs → Among a ns → Among a all
shuffled_left a neither h = h
shuffled_left a (left n s) (inl is) = inl is
shuffled_left a (left n s) (inr h) = inr (shuffled_left a s h)
shuffled_left a (right c s) h = inr (shuffled_left a s h)

shuffled_right : (a : Node) {all ns cs : List Node} → Shuffled all ns cs → Among a cs → Among a all
shuffled_right a neither h = h
shuffled_right a (left n s) h = inr (shuffled_right a s h)
shuffled_right a (right c s) (inl is) = inl is
shuffled_right a (right c s) (inr h) = inr (shuffled_right a s h)

shuffled_count : (test : Node → Bool) {all ns cs : List Node} → Shuffled all ns cs →
    count_by test all ≡ count_by test ns + count_by test cs
shuffled_count test neither = refl
shuffled_count test (left {all} {ns} {cs} n s) =
    omega (arith, count_cons test n all, count_cons test n ns, shuffled_count test s)
shuffled_count test (right {all} {ns} {cs} c s) =
    omega (arith, count_cons test c all, count_cons test c cs, shuffled_count test s)

-- A collection has the nodes of these two lists.
record Collects (nodes ns cs : List Node) : Type 0 where
  members : (a : Node) → Among a nodes → Among a ns ⊎ Among a cs
  counts : (test : Node → Bool) → count_by test nodes ≡ count_by test ns + count_by test cs

module _ (bytes : ℕ) (nodes ns cs : List Node) (h : Collects nodes ns cs) (m : Merged 0 ns cs)
    (inside : (a : Node) → Among a m.all → (a.start < a.end) × (a.end ≤ bytes)) where
  among_all : (a : Node) → Contains nodes a → Among a m.all
  among_all a there = elim (h.members a (among_contained nodes a there)) [
    | inl k ↦ shuffled_left a m.shuffled k
    | inr k ↦ shuffled_right a m.shuffled k
  ]

  same_count : (test : Node → Bool) → count_by test nodes ≡ count_by test m.all
  same_count test = h.counts test ∙ sym (shuffled_count test m.shuffled)

  same_length : length nodes ≡ length m.all
  same_length = sym (count_all nodes) ∙ same_count (λ n. true) ∙ count_all m.all

  compared : (a b : Node) → Contains nodes a → Contains nodes b → Compared a b
  compared a b one other =
      compare 0 m.all a b m.count m.nested (among_all a one) (among_all b other)

  in_order : AreNumberedInOrder bytes nodes
  in_order = record {
    within = λ a one. inside a (among_all a one);
    nested = λ a b one other. apart_or_within a b (compared a b one other);
    rising = λ a b one other less. elim (compared a b one other) [
      | inl same ↦ absurd (omega (arith, less, ap (λ (n : Node). n.start) same))
      | inr (inl first) ↦ first.0
      | inr (inr second) ↦ absurd (not_first a b (inside b (among_all b other)).0 less second.1)
    ];
    outer = λ a b one other together shorter. elim (compared a b one other) [
      | inl same ↦ absurd (omega (arith, shorter, ap (λ (n : Node). n.end) same))
      | inr (inl first) ↦ first.0
      | inr (inr second) ↦
          absurd (not_outer a b (inside b (among_all b other)).0 together shorter second.1)
    ];
    below =
        λ a one. let place = number_among 0 m.all a m.count (among_all a one)
        in omega (arith, place.1, same_length);
    once =
        λ number less. same_count (has_number number) ∙ count_once number 0 m.all m.count
        (omega arith) (omega (arith, less, same_length));
  }
    where
      precedes_either : (a b : Node) → ComesBefore a b → AreApart a b ⊎ Surrounds a b
      precedes_either a b (inl after) = inl (inl after)
      precedes_either a b (inr within) = inr within

      apart_or_within : (a b : Node) → Compared a b → AreApart a b ⊎ Surrounds a b ⊎ Surrounds b a
      apart_or_within a b (inl same) =
          inr (inl (
            omega (arith, ap (λ (n : Node). n.start) same),
            omega (arith, ap (λ (n : Node). n.end) same),
          ))
      apart_or_within a b (inr (inl first)) =
          elim (precedes_either a b first.1) [
            | inl apart ↦ inl apart
            | inr within ↦ inr (inl within)
          ]
      apart_or_within a b (inr (inr second)) =
          elim (precedes_either b a second.1) [
            | inl (inl x) ↦ inl (inr x)
            | inl (inr x) ↦
                inl (inl x)
            | inr within ↦ inr (inr within)
          ]

      not_first : (a b : Node) → b.start < b.end → a.start < b.start → ComesBefore b a → ⊥
      not_first a b some less (inl after) = omega (arith, some, less, after)
      not_first a b some less (inr within) = omega (arith, less, within.0)

      not_outer : (a b : Node) → b.start < b.end → a.start ≡ b.start → b.end < a.end →
          ComesBefore b a → ⊥
      not_outer a b some together shorter (inl after) = omega (arith, some, together, after)
      not_outer a b some together shorter (inr within) = omega (arith, shorter, within.1)

-- ---- the nodes of parts, and of comments

abbrev token_node : Token → Node
token_node t = node_at t.start t.end

abbrev token_nodes : List Token → List Node
token_nodes ts = map token_node ts

inside_bytes : (lo hi : ℕ) (ns : List Node) → AreInside lo hi ns → HaveBytes ns
inside_bytes lo hi [] h = tt
inside_bytes lo hi (n ∷ ns) h = (h.0.1, inside_bytes lo hi ns h.1)

tokens_behind : (lo : ℕ) (ts : List Token) (hi : ℕ) → TokensSpan lo ts hi →
    AreBehind lo (token_nodes ts)
tokens_behind lo [] hi s = tt
tokens_behind lo (t ∷ ts) hi s = (s.0, s.1, tokens_behind t.end ts hi s.2)

tokens_inside : (lo : ℕ) (ts : List Token) (hi : ℕ) → TokensSpan lo ts hi →
    AreInside lo hi (token_nodes ts)
tokens_inside lo [] hi s = tt
tokens_inside lo (t ∷ ts) hi s = (
  (s.0, s.1, span_rises t.end ts hi s.2),
  inside_wider t.end hi lo hi (token_nodes ts)
      (omega (arith, s.0, s.1)) (omega arith) (tokens_inside t.end ts hi s.2),
)

beside_all : (text : List ℕ) (lo : ℕ) (ts : List Token) (hi : ℕ) (w : Word) (n : Node)
    (cs : List Token) → TokensSpan lo ts hi → lexemes_of w ≡ lexemes text (filter is_kept ts)
    → StartsAt w n.start → EndsAt w n.end →
    ((c : Token) → Among c cs → Among c (filter is_comment ts)) → IsBesideAll n (token_nodes cs)
beside_all text lo ts hi w n [] s words from to some = tt
beside_all text lo ts hi w n (c ∷ cs) s words from to some = (
  beside text lo ts hi w n c s words from to (some c (inl refl)),
  beside_all text lo ts hi w n cs
      s words from to (λ d h. some d (inr h)),
)

are_beside : (text : List ℕ) (lo : ℕ) (ts : List Token) (hi : ℕ) (w : Word) (ns : List Node) →
    TokensSpan lo ts hi → lexemes_of w ≡ lexemes text (filter is_kept ts) → AreOf w ns
    → AreBeside ns (token_nodes (filter is_comment ts))
are_beside text lo ts hi w [] s words h = tt
are_beside text lo ts hi w (n ∷ ns) s words h = (
  beside_all text lo ts hi w n (filter is_comment ts) s words h.0 h.1 (λ c k. k),
  are_beside text
      lo ts hi w ns s words h.2,
)

agree : (places : List ℕ) (cs ns : List Node) → places ≡ merging.node_starts cs →
    Agrees (before places) 0 cs ns
agree places cs [] same = tt
agree places cs (n ∷ ns) same = (
  ap (λ z. before z n.start) same ∙ more (before (merging.node_starts cs) n.start),
  agree places cs
      ns same,
)
  where
    more : (k : ℕ) → k ≡ 0 + k
    more k = omega arith

same_starts : (ts : List Token) → starts_of ts ≡ merging.node_starts (token_nodes ts)
same_starts [] = refl
same_starts (t ∷ ts) = ap (λ ss. t.start ∷ ss) (same_starts ts)

numbered_inside : (more : ℕ → ℕ) (place lo hi : ℕ) (ns : List Node) (a : Node) →
    AreInside lo hi ns → Among a (numbered_by more place ns) → (a.start < a.end) × (a.end ≤ hi)
numbered_inside more place lo hi [] a h k = absurd k
numbered_inside more place lo hi (n ∷ ns) a h (inl is) =
    let start : a.start ≡ n.start = ap (λ (n : Node). n.start) is in
    let end : a.end ≡ n.end = ap (λ (n : Node). n.end) is in
    (omega (arith, h.0.1, start, end), omega (arith, h.0.2, end))
numbered_inside more place lo hi (n ∷ ns) a h (inr k) =
    numbered_inside more (suc place) lo hi ns a h.1 k

shuffled_either : (a : Node) {all ns cs : List Node} → Shuffled all ns cs → Among a all →
    Among a ns ⊎ Among a cs
shuffled_either a neither h = absurd h
shuffled_either a (left n s) (inl is) = inl (inl is)
shuffled_either a (left n s) (inr h) =
    elim (shuffled_either a s h) [ inl k ↦ inl (inr k) | inr k ↦ inr k ]
shuffled_either a (right c s) (inl is) = inr (inl is)
shuffled_either a (right c s) (inr h) =
    elim (shuffled_either a s h) [ inl k ↦ inl k | inr k ↦ inr (inr k) ]

-- ---- what numbering gives

numbered_place : (others : List ℕ) (place : ℕ) (ns : List Node) (k : ℕ) →
    slice_get (numbered_by (before others) place ns) k ≡ option_map (numbered_at others (place + k))
    (slice_get ns k)
numbered_place others place [] k = refl
numbered_place others place (n ∷ ns) zero = ap (λ p. Some (numbered_at others p n)) (more place)
  where
    more : (p : ℕ) → p ≡ p + 0
    more p = omega arith
numbered_place others place (n ∷ ns) (suc k) =
    numbered_place others (suc place) ns k
    ∙ ap (λ p. option_map (numbered_at others p) (slice_get ns k)) (more place k)
  where
    more : (p k : ℕ) → suc p + k ≡ p + suc k
    more p k = omega arith

pub numbered_nodes : RightNumbers → (others : List ℕ) (parts : List FilePart) →
    nodes_of_parts (numbered_parts others parts) ≡ numbered_by (before others) 0
    (nodes_of_parts parts)
numbered_nodes numbers others parts =
    same_places (nodes_of_parts (numbered_parts others parts))
    (numbered_by (before others) 0 (nodes_of_parts parts))
    (λ k. numbers others parts k
    ∙ ap (λ p. option_map (numbered_at others p) (slice_get (nodes_of_parts parts) k)) (more k)
    ∙ sym (numbered_place others 0 (nodes_of_parts parts) k))
  where
    more : (k : ℕ) → k ≡ 0 + k
    more k = omega arith

numbered_comments : (others : List ℕ) (place : ℕ) (text : List ℕ) (ts : List Token) →
    map (λ (c : Comment). c.node) (comments_from others place text ts) ≡ numbered_by (before others)
    place (token_nodes ts)
numbered_comments others place text [] = refl
numbered_comments others place text (t ∷ ts) =
    ap (λ ns. numbered_at others place (token_node t) ∷ ns) (numbered_comments others (suc place)
    text ts)

-- ---- the parts by their kinds

chosen_one : {A : Type 0} (nodes : A → List Node) (a : Node) (p : FilePart) (ps : List FilePart)
    (found : List A) (o : Option A) → ((x : A) → o ≡ Some x → nodes_of_file_part p ≡ nodes x)
    → (Among a (flat_map nodes found) → Among a (nodes_of_parts ps)) →
    Among a (flat_map nodes (cons_option o found)) →
    Among a (nodes_of_file_part p ++ nodes_of_parts ps)
chosen_one nodes a p ps found None fits later h =
    among_right a (nodes_of_file_part p) (nodes_of_parts ps) (later h)
chosen_one nodes a p ps found (Some x) fits later h =
    elim (among_either a (nodes x) (flat_map nodes found) h) [
      | inl k ↦
          among_left a (nodes_of_file_part p) (nodes_of_parts ps)
          (subst (λ ns. Among a ns) (sym (fits x refl)) k)
      | inr k ↦ among_right a (nodes_of_file_part p) (nodes_of_parts ps) (later k)
    ]

chosen : {A : Type 0} (choose : FilePart → Option A) (nodes : A → List Node) →
    ((p : FilePart) (x : A) → choose p ≡ Some x → nodes_of_file_part p ≡ nodes x)
    → (a : Node) (ps : List FilePart) → Among a (flat_map nodes (filter_map choose ps)) →
    Among a (nodes_of_parts ps)
chosen choose nodes fits a [] h = h
chosen choose nodes fits a (p ∷ ps) h =
    chosen_one nodes a p ps (filter_map choose ps) (choose p) (fits p)
    (chosen choose nodes fits a ps) h

pub unit_fits : (p : FilePart) (x : _) → unit_of p ≡ Some x → nodes_of_file_part p ≡ nodes_of_unit x
unit_fits (part.Unit u) x e = ap nodes_of_unit (first_of u x e)
unit_fits (part.Types u) x e = absurd cc
unit_fits (part.Globals u) x e = absurd cc
unit_fits (part.Config u) x e = absurd cc

pub types_fit : (p : FilePart) (x : _) → types_of p ≡ Some x → nodes_of_file_part p
    ≡ nodes_of_types x
types_fit (part.Unit u) x e = absurd cc
types_fit (part.Types u) x e = ap nodes_of_types (first_of u x e)
types_fit (part.Globals u) x e = absurd cc
types_fit (part.Config u) x e = absurd cc

pub globals_fit : (p : FilePart) (x : _) → globals_of p ≡ Some x → nodes_of_file_part p
    ≡ nodes_of_globals x
globals_fit (part.Unit u) x e = absurd cc
globals_fit (part.Types u) x e = absurd cc
globals_fit (part.Globals u) x e = ap nodes_of_globals (first_of u x e)
globals_fit (part.Config u) x e = absurd cc

pub config_fits : (p : FilePart) (x : _) → config_of p ≡ Some x → nodes_of_file_part p
    ≡ nodes_of_config x
config_fits (part.Unit u) x e = absurd cc
config_fits (part.Types u) x e = absurd cc
config_fits (part.Globals u) x e = absurd cc
config_fits (part.Config u) x e = ap nodes_of_config (first_of u x e)

abbrev units_among : List FilePart → List Node
units_among ps = flat_map nodes_of_unit (filter_map unit_of ps)

abbrev types_among : List FilePart → List Node
types_among ps = flat_map nodes_of_types (filter_map types_of ps)

abbrev globals_among : List FilePart → List Node
globals_among ps = flat_map nodes_of_globals (filter_map globals_of ps)

abbrev configs_among : List FilePart → List Node
configs_among ps = flat_map nodes_of_config (filter_map config_of ps)

four_counts : (test : Node → Bool) (ps : List FilePart) →
    count_by test (units_among ps) +
    (count_by test (types_among ps) + (count_by test (globals_among ps) + count_by test
    (configs_among ps))) ≡ count_by test (nodes_of_parts ps)
four_counts test [] = refl
four_counts test (part.Unit x ∷ ps) =
    omega (
      arith,
      four_counts test ps,
      count_append test (nodes_of_unit x) (units_among ps),
      count_append test (nodes_of_unit x) (nodes_of_parts ps),
    )
four_counts test (part.Types x ∷ ps) =
    omega (
      arith,
      four_counts test ps,
      count_append test (nodes_of_types x) (types_among ps),
      count_append test (nodes_of_types x) (nodes_of_parts ps),
    )
four_counts test (part.Globals x ∷ ps) =
    omega (
      arith,
      four_counts test ps,
      count_append test (nodes_of_globals x) (globals_among ps),
      count_append test (nodes_of_globals x) (nodes_of_parts ps),
    )
four_counts test (part.Config x ∷ ps) =
    omega (
      arith,
      four_counts test ps,
      count_append test (nodes_of_config x) (configs_among ps),
      count_append test (nodes_of_config x) (nodes_of_parts ps),
    )

tree_collects : (ps : List FilePart) (found : List Comment) (feeds : List ℕ) →
    Collects (nodes_of_tree (file_of ps found feeds)) (nodes_of_parts ps)
    (map (λ (c : Comment). c.node) found)
tree_collects ps found feeds = record {
  members = λ a h. elim (among_either a (units_among ps) behind_units h) [
    | inl k ↦ inl (chosen unit_of nodes_of_unit unit_fits a ps k)
    | inr h ↦ elim (among_either a (types_among ps) behind_types h) [
      | inl k ↦ inl (chosen types_of nodes_of_types types_fit a ps k)
      | inr h ↦ elim (among_either a (globals_among ps) behind_globals h) [
        | inl k ↦ inl (chosen globals_of nodes_of_globals globals_fit a ps k)
        | inr h ↦ elim (among_either a (configs_among ps) nodes h) [
          | inl k ↦ inl (chosen config_of nodes_of_config config_fits a ps k)
          | inr k ↦ inr k
        ]
      ]
    ]
  ];
  counts =
      λ test. omega (
        arith,
        four_counts test ps,
        count_append test (units_among ps) behind_units,
        count_append test (types_among ps) behind_types,
        count_append test (globals_among ps) behind_globals,
        count_append test (configs_among ps)
            nodes,
      );
}
  where
    nodes : List Node
    nodes = map (λ (c : Comment). c.node) found

    behind_globals : List Node
    behind_globals = configs_among ps ++ nodes

    behind_types : List Node
    behind_types = globals_among ps ++ behind_globals

    behind_units : List Node
    behind_units = types_among ps ++ behind_types

collects_same : {nodes ns ms cs ds : List Node} → ns ≡ ms → cs ≡ ds → Collects nodes ns cs →
    Collects nodes ms ds
collects_same {nodes} {ns} {ms} {cs} {ds} one other h =
    subst (λ z. Collects nodes z ds) one (subst (λ z. Collects nodes ns z) other h)

-- ---- trees

module _ (tokens_in : TokensIn) (numbers : RightNumbers) (text : List ℕ) (tokens : List Token)
    (cut : IsCut text tokens) (parts : List FilePart) (spelled : IsFile text tokens parts) where
  spans : TokensSpan (mark_length text) tokens (length text)
  spans =
      tokens_span tokens (mark_length text) (drop (mark_length text) text) (length text) [] cut.cut
      (λ t there. (tokens_in text tokens cut t there).some)

  ordered : StandInOrder spelled.word (nodes_of_parts parts)
  ordered = file_nodes.holds 0 spelled.word parts spelled.depth spelled.spelled

  placed : AreInside (mark_length text) (length text) (nodes_of_parts parts)
      × AreNested (nodes_of_parts parts)
  placed =
      ordered.ordered (mark_length text) (length text) (word_spans text (mark_length text)
      spelled.word (filter is_kept tokens) (length text) spelled.tokens
      (filter_span is_kept (mark_length text) tokens (length text) spans))

  comment_spans : TokensSpan (mark_length text) (comments_among tokens) (length text)
  comment_spans = filter_span is_comment (mark_length text) tokens (length text) spans

  pub merged : Merged 0 (numbered_by (before (starts_of (comments_among tokens))) 0
      (nodes_of_parts parts)) (numbered_by (before (places_of parts)) 0
      (token_nodes (comments_among tokens)))
  merged =
      merge (before (starts_of (comments_among tokens))) (before (places_of parts))
      (length (nodes_of_parts parts) + length (token_nodes (comments_among tokens))) 0 0
      (mark_length text)
      (nodes_of_parts parts) (token_nodes (comments_among tokens)) (omega arith) placed.1
      (inside_bytes (mark_length text) (length text) (nodes_of_parts parts) placed.0)
      (tokens_behind (mark_length text) (comments_among tokens) (length text) comment_spans)
      (are_beside text (mark_length text) tokens (length text) spelled.word (nodes_of_parts parts)
      spans spelled.tokens ordered.lexemes)
      (agree (starts_of (comments_among tokens)) (token_nodes (comments_among tokens))
      (nodes_of_parts parts) (same_starts (comments_among tokens)))
      (agree (places_of parts) (nodes_of_parts parts) (token_nodes (comments_among tokens)) refl)

  inside_text : (a : Node) → Among a merged.all → (a.start < a.end) × (a.end ≤ length text)
  inside_text a there = elim (shuffled_either a merged.shuffled there) [
    | inl h ↦
        numbered_inside (before (starts_of (comments_among tokens))) 0 (mark_length text)
        (length text) (nodes_of_parts parts) a placed.0 h
    | inr h ↦
        numbered_inside (before (places_of parts)) 0 (mark_length text) (length text)
        (token_nodes (comments_among tokens)) a
        (tokens_inside (mark_length text) (comments_among tokens) (length text) comment_spans) h
  ]

  tree_in_order : AreNumberedInOrder (length text)
      (nodes_of_tree (tree_of text (comments_among tokens) parts))
  tree_in_order =
      let collects = tree_collects (numbered_parts (starts_of (comments_among tokens)) parts)
      (comments_from (places_of parts) 0 text (comments_among tokens)) (feeds_from 0 text) in
      in_order (length text) (nodes_of_tree (tree_of text (comments_among tokens) parts))
      (numbered_by (before (starts_of (comments_among tokens))) 0 (nodes_of_parts parts))
      (numbered_by (before (places_of parts)) 0 (token_nodes (comments_among tokens)))
      (collects_same (numbered_nodes numbers (starts_of (comments_among tokens)) parts)
      (numbered_comments (places_of parts) 0 text (comments_among tokens)) collects)
      merged inside_text

pub nodes_in_order : TokensIn → RightNumbers → NodesInOrder
nodes_in_order tokens_in numbers text tree (tokens, cut, is) =
    subst (λ t. AreNumberedInOrder (length text) (nodes_of_tree t)) (sym is.tree_is)
    (tree_in_order tokens_in numbers text tokens cut is.parts is.spelled)
