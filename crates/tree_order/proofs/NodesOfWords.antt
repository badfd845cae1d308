-- The nodes of what a word spells stand within the bytes of the word: two of them are apart or one
-- is within the other, and an outer one comes
-- first.
use Rattle.std.proofs.Common.{◌≡◌, ℕ, ◌<◌, ◌≤◌, List, [], ◌∷◌, ◌++◌, refl, arith, inl, inr, ◌⊎◌}
use Rattle.token_grammar.specs.Texts.{Lexeme}
use Rattle.token_grammar.specs.Grammar.{Word, start_of, end_of}
use Rattle.st_tree.specs.Places.{node_at}
use Rattle.st_tree.specs.declared.node.Node.{Node}
use Rattle.tree_order.proofs.Gathering.{Gathering}

-- The lexemes of the word stand one behind the other, within these bounds, each with a byte or
-- more.
abbrev pub Spans : ℕ → Word → ℕ → Type 0
Spans lo [] hi = lo ≤ hi
Spans lo (p ∷ w) hi = (lo ≤ p.0.start) × (p.0.start < p.0.end) × Spans p.0.end w hi

-- A node has a byte or more, and stands within the bounds.
abbrev pub IsInside : ℕ → ℕ → Node → Type 0
IsInside lo hi n = (lo ≤ n.start) × (n.start < n.end) × (n.end ≤ hi)

abbrev pub AreInside : ℕ → ℕ → List Node → Type 0
AreInside lo hi [] = Unit {0}
AreInside lo hi (n ∷ ns) = IsInside lo hi n × AreInside lo hi ns

-- The second node is behind the first, or within it.
abbrev pub ComesBefore : Node → Node → Type 0
ComesBefore a b = (a.end ≤ b.start) ⊎ ((a.start ≤ b.start) × (b.end ≤ a.end))

abbrev pub ComesBeforeAll : Node → List Node → Type 0
ComesBeforeAll a [] = Unit {0}
ComesBeforeAll a (b ∷ ns) = ComesBefore a b × ComesBeforeAll a ns

abbrev pub AreNested : List Node → Type 0
AreNested [] = Unit {0}
AreNested (n ∷ ns) = ComesBeforeAll n ns × AreNested ns

-- A lexeme of the word starts there.
abbrev pub StartsAt : Word → ℕ → Type 0
StartsAt [] place = ⊥
StartsAt (p ∷ w) place = (p.0.start ≡ place) ⊎ StartsAt w place

-- A lexeme of the word ends there.
abbrev pub EndsAt : Word → ℕ → Type 0
EndsAt [] place = ⊥
EndsAt (p ∷ w) place = (p.0.end ≡ place) ⊎ EndsAt w place

-- Each node starts where a lexeme does, and ends where a lexeme does.
abbrev pub AreOf : Word → List Node → Type 0
AreOf w [] = Unit {0}
AreOf w (n ∷ ns) = StartsAt w n.start × EndsAt w n.end × AreOf w ns

pub record StandInOrder (w : Word) (ns : List Node) : Type 0 where
  pub ordered : (lo hi : ℕ) → Spans lo w hi → AreInside lo hi ns × AreNested ns
  pub lexemes : AreOf w ns

-- ---- words

spans_rises : (lo : ℕ) (w : Word) (hi : ℕ) → Spans lo w hi → lo ≤ hi
spans_rises lo [] hi s = s
spans_rises lo (p ∷ w) hi s = omega (arith, s.0, s.1, spans_rises p.0.end w hi s.2)

spans_apart : (lo : ℕ) (u v : Word) (hi : ℕ) → Spans lo (u ++ v) hi → (mid : ℕ) × Spans lo u mid
    × Spans mid v hi
spans_apart lo [] v hi s = (lo, omega arith, s)
spans_apart lo (p ∷ u) v hi s =
    let r = spans_apart p.0.end u v hi s.2 in (r.0, (s.0, s.1, r.1), r.2)

spans_all : (lo : ℕ) (p : Lexeme × ℕ) (w : Word) (hi : ℕ) → Spans lo (p ∷ w) hi →
    Spans p.0.start (p ∷ w) (end_of (p ∷ w)) × (end_of (p ∷ w) ≤ hi)
spans_all lo p [] hi s = ((omega arith, s.1, omega arith), s.2)
spans_all lo p (q ∷ w) hi s =
    let r = spans_all p.0.end q w hi s.2 in ((omega arith, s.1, (s.2.0, r.0.1, r.0.2)), r.1)

-- ---- lists of nodes

pub inside_append : (lo hi : ℕ) (ns ms : List Node) → AreInside lo hi ns → AreInside lo hi ms →
    AreInside lo hi (ns ++ ms)
inside_append lo hi [] ms h k = k
inside_append lo hi (n ∷ ns) ms h k = (h.0, inside_append lo hi ns ms h.1 k)

pub inside_wider : (lo hi low high : ℕ) (ns : List Node) → low ≤ lo → hi ≤ high →
    AreInside lo hi ns → AreInside low high ns
inside_wider lo hi low high [] below above h = tt
inside_wider lo hi low high (n ∷ ns) below above h = (
  (omega (arith, h.0.0), h.0.1, omega (arith, h.0.2)),
  inside_wider lo hi low high ns below above
      h.1,
)

precedes_append : (a : Node) (ns ms : List Node) → ComesBeforeAll a ns → ComesBeforeAll a ms →
    ComesBeforeAll a (ns ++ ms)
precedes_append a [] ms h k = k
precedes_append a (n ∷ ns) ms h k = (h.0, precedes_append a ns ms h.1 k)

precedes_behind : (mid hi : ℕ) (a : Node) (ms : List Node) → a.end ≤ mid → AreInside mid hi ms →
    ComesBeforeAll a ms
precedes_behind mid hi a [] ends h = tt
precedes_behind mid hi a (m ∷ ms) ends h =
    (inl (omega (arith, h.0.0)), precedes_behind mid hi a ms ends h.1)

precedes_within : (a : Node) (ms : List Node) → AreInside a.start a.end ms → ComesBeforeAll a ms
precedes_within a [] h = tt
precedes_within a (m ∷ ms) h = (inr (h.0.0, h.0.2), precedes_within a ms h.1)

nested_append : (lo mid hi : ℕ) (ns ms : List Node) → AreInside lo mid ns → AreInside mid hi ms →
    AreNested ns → AreNested ms → AreNested (ns ++ ms)
nested_append lo mid hi [] ms h k a b = b
nested_append lo mid hi (n ∷ ns) ms h k a b = (
  precedes_append n ns ms a.0 (precedes_behind mid hi n ms h.0.2 k),
  nested_append lo mid hi ns
      ms h.1 k a.1 b,
)

-- ---- the lexemes with which nodes start and end

starts_left : (u v : Word) (place : ℕ) → StartsAt u place → StartsAt (u ++ v) place
starts_left [] v place h = absurd h
starts_left (p ∷ u) v place (inl is) = inl is
starts_left (p ∷ u) v place (inr h) = inr (starts_left u v place h)

starts_right : (u v : Word) (place : ℕ) → StartsAt v place → StartsAt (u ++ v) place
starts_right [] v place h = h
starts_right (p ∷ u) v place h = inr (starts_right u v place h)

ends_left : (u v : Word) (place : ℕ) → EndsAt u place → EndsAt (u ++ v) place
ends_left [] v place h = absurd h
ends_left (p ∷ u) v place (inl is) = inl is
ends_left (p ∷ u) v place (inr h) = inr (ends_left u v place h)

ends_right : (u v : Word) (place : ℕ) → EndsAt v place → EndsAt (u ++ v) place
ends_right [] v place h = h
ends_right (p ∷ u) v place h = inr (ends_right u v place h)

ends_last : (p : Lexeme × ℕ) (w : Word) → EndsAt (p ∷ w) (end_of (p ∷ w))
ends_last p [] = inl refl
ends_last p (q ∷ w) = inr (ends_last q w)

of_left : (u v : Word) (ns : List Node) → AreOf u ns → AreOf (u ++ v) ns
of_left u v [] h = tt
of_left u v (n ∷ ns) h = (starts_left u v n.start h.0, ends_left u v n.end h.1, of_left u v ns h.2)

of_right : (u v : Word) (ns : List Node) → AreOf v ns → AreOf (u ++ v) ns
of_right u v [] h = tt
of_right u v (n ∷ ns) h =
    (starts_right u v n.start h.0, ends_right u v n.end h.1, of_right u v ns h.2)

of_append : (w : Word) (ns ms : List Node) → AreOf w ns → AreOf w ms → AreOf w (ns ++ ms)
of_append w [] ms h k = k
of_append w (n ∷ ns) ms h k = (h.0, h.1, of_append w ns ms h.2 k)

-- ---- what is gathered

pub nothing : StandInOrder [] []
nothing = record { ordered = λ lo hi s. (tt, tt); lexemes = tt }

pub one : (p : Lexeme × ℕ) → StandInOrder (p ∷ []) []
one p = record { ordered = λ lo hi s. (tt, tt); lexemes = tt }

pub both : (u v : Word) (ms ns : List Node) → StandInOrder u ms → StandInOrder v ns →
    StandInOrder (u ++ v) (ms ++ ns)
both u v ms ns h k = record {
  ordered = λ lo hi s.
      let parts = spans_apart lo u v hi s in
      let front = h.ordered lo parts.0 parts.1 in
      let back = k.ordered parts.0 hi parts.2 in
      let low : lo ≤ parts.0 = spans_rises lo u parts.0 parts.1 in
      let high : parts.0 ≤ hi = spans_rises parts.0 v hi parts.2 in (
        inside_append lo hi ms ns (inside_wider lo parts.0 lo hi ms (omega arith) high front.0)
            (inside_wider parts.0 hi lo hi ns low (omega arith) back.0),
        nested_append lo parts.0 hi ms ns front.0 back.0 front.1 back.1,
      );
  lexemes = of_append (u ++ v) ms ns (of_left u v ms h.lexemes) (of_right u v ns k.lexemes);
}

pub whole : (w : Word) (ms : List Node) → (w ≡ [] → ⊥) → StandInOrder w ms →
    StandInOrder w (node_at (start_of w) (end_of w) ∷ ms)
whole [] ms some h = absurd (some refl)
whole (p ∷ w) ms some h = record {
  ordered = λ lo hi s.
      let all = spans_all lo p w hi s in
      let inner = h.ordered p.0.start (end_of (p ∷ w)) all.0 in
      let rises : p.0.end ≤ end_of (p ∷ w) = spans_rises p.0.end w (end_of (p ∷ w)) all.0.2 in
      let from : lo ≤ p.0.start = s.0 in
      let to : end_of (p ∷ w) ≤ hi = all.1 in (
        (
          (from, omega (arith, s.1), to),
          inside_wider p.0.start (end_of (p ∷ w)) lo hi ms from to
              inner.0,
        ),
        (precedes_within (node_at p.0.start (end_of (p ∷ w))) ms inner.0, inner.1),
      );
  lexemes = (inl refl, ends_last p w, h.lexemes);
}

-- the node alone is gathered, and nothing of a text
abbrev pub node_gathering : Gathering StandInOrder
node_gathering = record {
  own = λ n. n ∷ [];
  spelled = λ kind text. [];
  nothing = nothing;
  one = λ t n. one (t, n);
  text = λ kind t n passes. one (t, n);
  both = both;
  whole = whole;
}
