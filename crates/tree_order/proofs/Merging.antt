-- The nodes of the parts of a file and those of its comments, with their numbers, are one list in
-- which each node has the number of its place.
use Rattle.std.proofs.Common.{◌≡◌, ℕ, zero, suc, ◌+◌, ◌<◌, ◌≤◌, Bool, true, false, cond, ltb}
use Rattle.std.proofs.Common.{List, [], ◌∷◌, map, length, refl, ap, subst, ◌∙◌, arith}
use Rattle.std.proofs.Common.{inl, inr, ◌⊎◌}
use Rattle.std.proofs.lemmas.Bool.{lt-ltb, ltb-true}
use Rattle.std.proofs.lemmas.List.Sums.{sum_by-cons}
use Rattle.st_tree.specs.declared.node.Node.{Node}
use Rattle.tree_numbers.specs.NumberedAt.{before}
use Rattle.tree_order.proofs.NodesOfWords.{ComesBefore, ComesBeforeAll, AreNested}
use Rattle.tree_order.proofs.TokenPlaces.{IsBeside}

abbrev pub node_starts : List Node → List ℕ
node_starts ns = map (λ (n : Node). n.start) ns

-- a node with this number
abbrev pub with_number : ℕ → Node → Node
with_number number n = record { number = record { 0 = number }; start = n.start; end = n.end }

-- nodes with the number of their place, and as many more as the function says of their first byte
abbrev pub numbered_by : (ℕ → ℕ) → ℕ → List Node → List Node
numbered_by more place [] = []
numbered_by more place (n ∷ ns) =
    with_number (place + more n.start) n ∷ numbered_by more (suc place) ns

-- ---- one list of two

pub data Shuffled : List Node → List Node → List Node → Type 0 where
  neither : Shuffled [] [] []
  left : {all ns cs : List Node} (n : Node) → Shuffled all ns cs → Shuffled (n ∷ all) (n ∷ ns) cs
  right : {all ns cs : List Node} (c : Node) → Shuffled all ns cs → Shuffled (c ∷ all) ns (c ∷ cs)

precedes_shuffled : (a : Node) {all ns cs : List Node} → Shuffled all ns cs → ComesBeforeAll a ns →
    ComesBeforeAll a cs → ComesBeforeAll a all
precedes_shuffled a neither h k = tt
precedes_shuffled a (left n s) h k = (h.0, precedes_shuffled a s h.1 k)
precedes_shuffled a (right c s) h k = (k.0, precedes_shuffled a s h k.1)

-- the numbers rise by one, from this one on
abbrev pub CountFrom : ℕ → List Node → Type 0
CountFrom number [] = Unit {0}
CountFrom number (n ∷ ns) = (n.number.0 ≡ number) × CountFrom (suc number) ns

pub record Merged (number : ℕ) (ns cs : List Node) : Type 0 where
  pub all : List Node
  pub count : CountFrom number all
  pub nested : AreNested all
  pub shuffled : Shuffled all ns cs

-- ---- what merging needs

-- comments one behind the other
abbrev pub AreBehind : ℕ → List Node → Type 0
AreBehind place [] = Unit {0}
AreBehind place (c ∷ cs) = (place ≤ c.start) × (c.start < c.end) × AreBehind c.end cs

-- each node has a byte or more
abbrev pub HaveBytes : List Node → Type 0
HaveBytes [] = Unit {0}
HaveBytes (n ∷ ns) = (n.start < n.end) × HaveBytes ns

abbrev pub IsBesideAll : Node → List Node → Type 0
IsBesideAll n [] = Unit {0}
IsBesideAll n (c ∷ cs) = IsBeside n c.start c.end × IsBesideAll n cs

abbrev pub AreBeside : List Node → List Node → Type 0
AreBeside [] cs = Unit {0}
AreBeside (n ∷ ns) cs = IsBesideAll n cs × AreBeside ns cs

beside_later : (c : Node) (ns cs : List Node) → AreBeside ns (c ∷ cs) → AreBeside ns cs
beside_later c [] cs h = tt
beside_later c (n ∷ ns) cs h = (h.0.1, beside_later c ns cs h.1)

-- the function counts so many, and those of the list that start before
abbrev pub Agrees : (ℕ → ℕ) → ℕ → List Node → List Node → Type 0
Agrees more passed cs [] = Unit {0}
Agrees more passed cs (n ∷ ns) =
    (more n.start ≡ passed + before (node_starts cs) n.start) × Agrees more passed cs ns

-- ---- how many start before

before_cons : (s : ℕ) (ss : List ℕ) (place : ℕ) → before (s ∷ ss) place ≡ cond (ltb s place) 1 0 +
    before ss place
unfolding before
before_cons s ss place = sum_by-cons (λ x. cond (ltb x place) 1 0) s ss

before_more : (s : ℕ) (ss : List ℕ) (place : ℕ) → s < place → before (s ∷ ss) place
    ≡ suc (before ss place)
before_more s ss place less =
    before_cons s ss place ∙ ap (λ b. cond b 1 0 + before ss place) (lt-ltb s place less)
    ∙ one_and (before ss place)
  where
    one_and : (n : ℕ) → 1 + n ≡ suc n
    one_and n = omega arith

before_same : (s : ℕ) (ss : List ℕ) (place : ℕ) → place ≤ s → before (s ∷ ss) place
    ≡ before ss place
before_same s ss place le = before_cons s ss place ∙ by (ltb s place) refl
  where
    by : (b : Bool) → ltb s place ≡ b → cond b 1 0 + before ss place ≡ before ss place
    by true is = absurd (omega (arith, le, ltb-true s place is))
    by false is = omega arith

before_none : (place : ℕ) → before [] place ≡ 0
unfolding before
before_none place = refl

-- no node starts before one that comes before all
none_before : (a : Node) (ns : List Node) → a.start < a.end → ComesBeforeAll a ns → (place : ℕ) →
    place ≤ a.start → before (node_starts ns) place ≡ 0
none_before a [] some h place le = before_none place
none_before a (n ∷ ns) some h place le =
    before_same n.start (node_starts ns) place (starts_behind h.0) ∙ none_before a ns some h.1 place
    le
  where
    starts_behind : ComesBefore a n → place ≤ n.start
    starts_behind (inl after) = omega (arith, le, after, some)
    starts_behind (inr within) = omega (arith, le, within.0)

no_comment_before : (from : ℕ) (cs : List Node) → AreBehind from cs → (place : ℕ) → place ≤ from →
    before (node_starts cs) place ≡ 0
no_comment_before from [] h place le = before_none place
no_comment_before from (c ∷ cs) h place le =
    before_same c.start (node_starts cs) place (omega (arith, le, h.0)) ∙ no_comment_before c.end cs
    h.2 place (omega (arith, le, h.0, h.1))

-- ---- a node first

-- the comments agree with one node more, which starts before them
agrees_node : (more : ℕ → ℕ) (passed : ℕ) (n : Node) (ns cs : List Node) (from : ℕ) →
    n.start < from → AreBehind from cs → Agrees more passed (n ∷ ns) cs →
    Agrees more (suc passed) ns cs
agrees_node more passed n ns [] from less h k = tt
agrees_node more passed n ns (c ∷ cs) from less h k = (
  omega (arith, k.0, before_more n.start (node_starts ns) c.start (omega (arith, less, h.0))),
  agrees_node more passed n ns cs c.end (omega (arith, less, h.0, h.1)) h.2 k.1,
)

-- the node comes before comments that start behind its first byte
precedes_comments : (more : ℕ → ℕ) (place : ℕ) (n : Node) (cs : List Node) (from : ℕ) →
    n.start < from → AreBehind from cs → IsBesideAll n cs →
    ComesBeforeAll n (numbered_by more place cs)
precedes_comments more place n [] from less h k = tt
precedes_comments more place n (c ∷ cs) from less h k =
    (one k.0, precedes_comments more (suc place) n cs c.end (omega (arith, less, h.0, h.1)) h.2 k.1)
  where
    one : IsBeside n c.start c.end → ComesBefore n (with_number (place + more c.start) c)
    one (inl after) = inl after
    one (inr (inl earlier)) = absurd (omega (arith, earlier, less, h.0, h.1))
    one (inr (inr within)) = inr (omega (arith, within.0), within.1)

precedes_numbered : (more : ℕ → ℕ) (place : ℕ) (a : Node) (ns : List Node) → ComesBeforeAll a ns →
    ComesBeforeAll a (numbered_by more place ns)
precedes_numbered more place a [] h = tt
precedes_numbered more place a (n ∷ ns) h = (h.0, precedes_numbered more (suc place) a ns h.1)

-- ---- a comment first

-- each node starts there or behind
abbrev pub AllFrom : ℕ → List Node → Type 0
AllFrom place [] = Unit {0}
AllFrom place (n ∷ ns) = (place ≤ n.start) × AllFrom place ns

from_first : (a : Node) (ns : List Node) → a.start < a.end → ComesBeforeAll a ns → (place : ℕ) →
    place ≤ a.start → AllFrom place ns
from_first a [] some h place le = tt
from_first a (n ∷ ns) some h place le = (one h.0, from_first a ns some h.1 place le)
  where
    one : ComesBefore a n → place ≤ n.start
    one (inl after) = omega (arith, le, after, some)
    one (inr within) = omega (arith, le, within.0)

-- the nodes agree with one comment more, which starts before them
agrees_comment : (more : ℕ → ℕ) (passed : ℕ) (c : Node) (cs ns : List Node) → c.start < c.end →
    AllFrom c.end ns → Agrees more passed (c ∷ cs) ns → Agrees more (suc passed) cs ns
agrees_comment more passed c cs [] some h k = tt
agrees_comment more passed c cs (n ∷ ns) some h k = (
  omega (arith, k.0, before_more c.start (node_starts cs) n.start (omega (arith, some, h.0))),
  agrees_comment more passed c cs ns some h.1 k.1,
)

precedes_nodes : (more : ℕ → ℕ) (place : ℕ) (c : Node) (ns : List Node) → AllFrom c.end ns →
    ComesBeforeAll c (numbered_by more place ns)
precedes_nodes more place c [] h = tt
precedes_nodes more place c (n ∷ ns) h = (inl h.0, precedes_nodes more (suc place) c ns h.1)

precedes_later : (more : ℕ → ℕ) (place : ℕ) (c : Node) (cs : List Node) (from : ℕ) → c.end ≤ from →
    AreBehind from cs → ComesBeforeAll c (numbered_by more place cs)
precedes_later more place c [] from le h = tt
precedes_later more place c (d ∷ cs) from le h = (
  inl (omega (arith, le, h.0)),
  precedes_later more (suc place) c cs d.end
      (omega (arith, le, h.0, h.1)) h.2,
)

-- ---- all of them

module _ (more others : ℕ → ℕ) where
  node_first : (k j : ℕ) (n : Node) (ns cs : List Node) (from : ℕ) → n.start < from →
      AreBehind from cs → IsBesideAll n cs → ComesBeforeAll n ns
      → before (node_starts cs) n.start ≡ 0 → more n.start ≡ j + before (node_starts cs) n.start
      → Merged (suc k + j) (numbered_by more (suc k) ns) (numbered_by others j cs) →
      Merged (k + j) (numbered_by more k (n ∷ ns)) (numbered_by others j cs)
  node_first k j n ns cs from less h beside first none agrees m = record {
    all = with_number (k + more n.start) n ∷ m.all;
    count = (omega (arith, none, agrees), subst (λ b. CountFrom b m.all) (next k j) m.count);
    nested = (
      precedes_shuffled (with_number (k + more n.start) n) m.shuffled
          (precedes_numbered more (suc k) n ns first) (precedes_comments others j n cs from less h
          beside),
      m.nested,
    );
    shuffled = left (with_number (k + more n.start) n) m.shuffled;
  }
    where
      next : (k j : ℕ) → suc k + j ≡ suc (k + j)
      next k j = omega arith

  comment_first : (k j : ℕ) (c : Node) (ns cs : List Node) → AllFrom c.end ns → AreBehind c.end cs
      → before (node_starts ns) c.start ≡ 0 → others c.start ≡ k + before (node_starts ns) c.start
      → Merged (k + suc j) (numbered_by more k ns) (numbered_by others (suc j) cs) →
      Merged (k + j) (numbered_by more k ns) (numbered_by others j (c ∷ cs))
  comment_first k j c ns cs after h none agrees m = record {
    all = with_number (j + others c.start) c ∷ m.all;
    count = (omega (arith, none, agrees), subst (λ b. CountFrom b m.all) (next k j) m.count);
    nested = (
      precedes_shuffled (with_number (j + others c.start) c) m.shuffled
          (precedes_nodes more k c ns after) (precedes_later others (suc j) c cs c.end (omega arith)
          h),
      m.nested,
    );
    shuffled = right (with_number (j + others c.start) c) m.shuffled;
  }
    where
      next : (k j : ℕ) → k + suc j ≡ suc (k + j)
      next k j = omega arith

  -- which of the two comes first
  order_of : (n c : Node) → n.start < n.end → c.start < c.end → IsBeside n c.start c.end →
      (n.start < c.start) ⊎ (c.end ≤ n.start)
  order_of n c some byte (inl after) = inl (omega (arith, after, some))
  order_of n c some byte (inr (inl earlier)) = inr earlier
  order_of n c some byte (inr (inr within)) = inl within.0

  pub merge : (fuel k j from : ℕ) (ns cs : List Node) → length ns + length cs ≤ fuel →
      AreNested ns → HaveBytes ns → AreBehind from cs → AreBeside ns cs
      → Agrees more j cs ns → Agrees others k ns cs →
      Merged (k + j) (numbered_by more k ns) (numbered_by others j cs)
  merge fuel k j from [] [] enough nested some behind beside nodes comments =
      record { all = []; count = tt; nested = tt; shuffled = neither }
  merge zero k j from (n ∷ ns) cs enough nested some behind beside nodes comments =
      absurd (omega (arith, enough))
  merge zero k j from [] (c ∷ cs) enough nested some behind beside nodes comments =
      absurd (omega (arith, enough))
  merge (suc fuel) k j from [] (c ∷ cs) enough nested some behind beside nodes comments =
      comment_first k j c [] cs tt behind.2 (before_none c.start) comments.0
      (merge fuel k (suc j) c.end [] cs (omega (arith, enough)) nested some behind.2 tt tt
      comments.1)
  merge (suc fuel) k j from (n ∷ ns) [] enough nested some behind beside nodes comments =
      node_first k j n ns [] (suc n.start) (omega arith) tt tt nested.0 (before_none n.start)
      nodes.0
      (merge fuel (suc k) j from ns [] (omega (arith, enough)) nested.1 some.1 tt beside.1 nodes.1
      tt)
  merge (suc fuel) k j from (n ∷ ns) (c ∷ cs) enough nested some behind beside nodes comments =
      elim (order_of n c some.0 behind.1 beside.0.0) [
        | inl less ↦
            let here : AreBehind c.start (c ∷ cs) = (omega arith, behind.1, behind.2) in
            node_first k j n ns (c ∷ cs) c.start less here beside.0 nested.0
            (no_comment_before c.start (c ∷ cs) here n.start (omega (arith, less))) nodes.0
            (merge fuel (suc k) j from ns (c ∷ cs) (omega (arith, enough)) nested.1 some.1 behind
            beside.1 nodes.1 (agrees_node others k n ns (c ∷ cs) c.start less here comments))
        | inr earlier ↦
            let after : AllFrom c.end (n ∷ ns) = (
              earlier,
              from_first n ns some.0 nested.0 c.end
                  earlier,
            ) in
            comment_first k j c (n ∷ ns) cs after behind.2
            (before_same n.start (node_starts ns) c.start (omega (arith, earlier, behind.1))
            ∙ none_before n ns some.0 nested.0 c.start (omega (arith, earlier, behind.1)))
            comments.0
            (merge fuel k (suc j) c.end (n ∷ ns) cs (omega (arith, enough)) nested some behind.2
            (beside_later c (n ∷ ns) cs beside)
            (agrees_comment more j c cs (n ∷ ns) behind.1 after nodes) comments.1)
      ]
