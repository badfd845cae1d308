-- What numbering does to a tree, whatever its type: its nodes are numbered one after the other, and
-- nothing else of it changes.
use Rattle.std.proofs.Common.{◌≡◌, List, [], ◌∷◌, ◌++◌, map, slice_get, Option, Some, None, Result, Ok, Err, OnOk, refl, sym, ap, ◌∙◌}
use Rattle.std.specs.Prelude.{flat_map}
use Rattle.std.specs.Option.{option_map}
use Rattle.st_tree.specs.declared.node.Node.{Node}
use Rattle.tree_numbers.specs.declared.numbers.Counting.{Counting}
use Rattle.tree_numbers.specs.NodeLists.{nodes_if}
use Rattle.tree_numbers.specs.Bare.{bare_node}
use Rattle.tree_numbers.specs.Laws.{AreNumbered}
use Rattle.tree_numbers.specs.steps.Turns.{Turn, turn1, turn2, turn3, turn4, turn5, each, perhaps, paired}
use Rattle.tree_numbers.specs.steps.Counted.{counted}
use Rattle.tree_numbers.proofs.Counted.{and_then, counted_rest, counted_at, counted_append}

-- how a tree of a type is counted through, its nodes as a list, and the tree with all numbers 0
pub record Way (A : Type 0) : Type 0 where
  pub counts : A → Turn A
  pub nodes : A → List Node
  pub bare : A → A

abbrev pub listed : {A : Type 0} → Way A → A × Counting → List Node × Counting
listed w r = (w.nodes r.0, r.1)

-- what numbering does to one tree
pub record IsCounted {A : Type 0} (w : Way A) (x : A) : Type 0 where
  pub lists : (c : Counting) → listed w (w.counts x c) ≡ each (map counted (w.nodes x)) c
  pub stays : (c : Counting) → w.bare (w.counts x c).0 ≡ w.bare x

abbrev pub node_way : Way Node
node_way = record { counts = counted; nodes = λ node. node ∷ []; bare = bare_node }

pub node_is : (node : Node) → IsCounted node_way node
node_is node = record { lists = λ c. refl; stays = λ c. refl }

-- what no node lies in
pub at0 : {T : Type 0} (v : Way T) (x : T) → ((c : Counting) → v.counts x c ≡ (x, c)) → v.nodes x
    ≡ [] → IsCounted v x
at0 {T} v x counts nodes = record {
  lists = λ c. ap (listed v) (counts c) ∙ ap (λ (ns : List Node). (ns, c)) nodes
      ∙ sym (ap (λ (ns : List Node). each (map counted ns) c) nodes);
  stays = λ c. ap (λ (r : T × Counting). v.bare r.0) (counts c);
}

-- what is made of one part
pub at1 : {A T : Type 0} {w : Way A} {a : A} (v : Way T) (make : A → T)
    → ((a : A) (c : Counting) → v.counts (make a) c ≡ turn1 make (w.counts a) c)
    → ((a : A) → v.nodes (make a) ≡ w.nodes a) → ((a : A) → v.bare (make a) ≡ make (w.bare a))
    → IsCounted w a → IsCounted v (make a)
at1 {A} {T} {w} {a} v make counts nodes bare k = record {
  lists = λ c.
      ap (listed v) (counts a c)
      ∙ ap (λ (ns : List Node). (ns, (w.counts a c).1)) (nodes (w.counts a c).0)
      ∙ k.lists c
      ∙ sym (ap (λ (ns : List Node). each (map counted ns) c) (nodes a));
  stays = λ c.
      ap (λ (r : T × Counting). v.bare r.0) (counts a c)
      ∙ bare (w.counts a c).0 ∙ ap make (k.stays c) ∙ sym (bare a);
}

abbrev pub pair_way : {A B : Type 0} → Way A → Way B → Way (A × B)
pair_way w v = record {
  counts = λ q. turn2 paired (w.counts q.0) (v.counts q.1);
  nodes = λ q. w.nodes q.0 ++ v.nodes q.1;
  bare = λ q. (w.bare q.0, v.bare q.1);
}

pub pair : {A B : Type 0} {w : Way A} {v : Way B} {a : A} {b : B}
    → IsCounted w a → IsCounted v b → IsCounted (pair_way w v) (a, b)
pair {A} {B} {w} {v} {a} {b} k l = record {
  lists = λ c.
      ap (λ (r : List Node × Counting). (w.nodes (w.counts a c).0 ++ r.0, r.1))
      (l.lists (w.counts a c).1)
      ∙ ap (and_then (v.nodes b)) (k.lists c)
      ∙ sym (counted_append (w.nodes a) (v.nodes b) c);
  stays = λ c.
      ap (λ (x : A). (x, v.bare (v.counts b (w.counts a c).1).0)) (k.stays c)
      ∙ ap (λ (y : B). (w.bare a, y)) (l.stays (w.counts a c).1);
}

pub at2 : {A B T : Type 0} {w : Way A} {w2 : Way B} {a : A} {b : B} (v : Way T) (make : A → B → T)
    → ((a : A) (b : B) (c : Counting) → v.counts (make a b) c
    ≡ turn2 make (w.counts a) (w2.counts b) c)
    → ((a : A) (b : B) → v.nodes (make a b) ≡ w.nodes a ++ w2.nodes b)
    → ((a : A) (b : B) → v.bare (make a b) ≡ make (w.bare a) (w2.bare b))
    → IsCounted w a → IsCounted w2 b → IsCounted v (make a b)
at2 v make counts nodes bare k k2 =
    at1 v (λ q. make q.0 q.1) (λ q c. counts q.0 q.1 c) (λ q. nodes q.0 q.1) (λ q. bare q.0 q.1)
    (pair k k2)

pub at3 : {A B C T : Type 0} {w : Way A} {w2 : Way B} {w3 : Way C} {a : A} {b : B} {d : C}
    (v : Way T) (make : A → B → C → T)
    → ((a : A) (b : B) (d : C) (c : Counting) → v.counts (make a b d) c
    ≡ turn3 make (w.counts a) (w2.counts b) (w3.counts d) c)
    → ((a : A) (b : B) (d : C) → v.nodes (make a b d) ≡ w.nodes a ++ (w2.nodes b ++ w3.nodes d))
    → ((a : A) (b : B) (d : C) → v.bare (make a b d) ≡ make (w.bare a) (w2.bare b) (w3.bare d))
    → IsCounted w a → IsCounted w2 b → IsCounted w3 d → IsCounted v (make a b d)
at3 v make counts nodes bare k k2 k3 =
    at2 v (λ a q. make a q.0 q.1) (λ a q c. counts a q.0 q.1 c) (λ a q. nodes a q.0 q.1)
    (λ a q. bare a q.0 q.1) k (pair k2 k3)

pub at4 : {A B C D T : Type 0} {w : Way A} {w2 : Way B} {w3 : Way C} {w4 : Way D} {a : A} {b : B}
    {d : C} {e : D} (v : Way T) (make : A → B → C → D → T)
    → ((a : A) (b : B) (d : C) (e : D) (c : Counting) → v.counts (make a b d e) c
    ≡ turn4 make (w.counts a) (w2.counts b) (w3.counts d) (w4.counts e) c)
    → ((a : A) (b : B) (d : C) (e : D) → v.nodes (make a b d e) ≡ w.nodes a
    ++ (w2.nodes b ++ (w3.nodes d ++ w4.nodes e)))
    → ((a : A) (b : B) (d : C) (e : D) → v.bare (make a b d e)
    ≡ make (w.bare a) (w2.bare b) (w3.bare d) (w4.bare e))
    → IsCounted w a → IsCounted w2 b → IsCounted w3 d → IsCounted w4 e → IsCounted v (make a b d e)
at4 v make counts nodes bare k k2 k3 k4 =
    at3 v (λ a b q. make a b q.0 q.1) (λ a b q c. counts a b q.0 q.1 c) (λ a b q. nodes a b q.0 q.1)
    (λ a b q. bare a b q.0 q.1) k k2 (pair k3 k4)

pub at5 : {A B C D E T : Type 0} {w : Way A} {w2 : Way B} {w3 : Way C} {w4 : Way D} {w5 : Way E}
    {a : A} {b : B} {d : C} {e : D} {h : E} (v : Way T) (make : A → B → C → D → E → T)
    → ((a : A) (b : B) (d : C) (e : D) (h : E) (c : Counting) → v.counts (make a b d e h) c
    ≡ turn5 make (w.counts a) (w2.counts b) (w3.counts d) (w4.counts e) (w5.counts h) c)
    → ((a : A) (b : B) (d : C) (e : D) (h : E) → v.nodes (make a b d e h) ≡ w.nodes a
    ++ (w2.nodes b ++ (w3.nodes d ++ (w4.nodes e ++ w5.nodes h))))
    → ((a : A) (b : B) (d : C) (e : D) (h : E) → v.bare (make a b d e h)
    ≡ make (w.bare a) (w2.bare b) (w3.bare d) (w4.bare e) (w5.bare h))
    → IsCounted w a → IsCounted w2 b → IsCounted w3 d → IsCounted w4 e → IsCounted w5 h →
    IsCounted v (make a b d e h)
at5 v make counts nodes bare k k2 k3 k4 k5 =
    at4 v (λ a b d q. make a b d q.0 q.1) (λ a b d q c. counts a b d q.0 q.1 c)
    (λ a b d q. nodes a b d q.0 q.1) (λ a b d q. bare a b d q.0 q.1) k k2 k3 (pair k4 k5)

-- lists, and what may be there
abbrev pub each_way : {A : Type 0} → Way A → Way (List A)
each_way w =
    record { counts = λ xs. each (map w.counts xs); nodes = flat_map w.nodes; bare = map w.bare }

pub each_is : {A : Type 0} (w : Way A) → ((x : A) → IsCounted w x) → (xs : List A) →
    IsCounted (each_way w) xs
each_is w h [] = at0 (each_way w) [] (λ c. refl) refl
each_is w h (x ∷ xs) =
    at2 (each_way w) (λ x xs. x ∷ xs) (λ x xs c. refl) (λ x xs. refl) (λ x xs. refl) (h x)
    (each_is w h xs)

abbrev pub option_way : {A : Type 0} → Way A → Way (Option A)
option_way w =
    record {
      counts = λ o. perhaps (option_map w.counts o);
      nodes = nodes_if w.nodes;
      bare =
          option_map w.bare;
    }

pub option_is : {A : Type 0} (w : Way A) → ((x : A) → IsCounted w x) → (o : Option A) →
    IsCounted (option_way w) o
option_is w h None = at0 (option_way w) None (λ c. refl) refl
option_is w h (Some x) =
    at1 (option_way w) (λ x. Some x) (λ x c. refl) (λ x. refl) (λ x. refl) (h x)

-- trees with what numbering does to them
abbrev pub Held : {A : Type 0} → Way A → Type 0
Held {A} w = (x : A) × IsCounted w x

pub each_held : {A : Type 0} (w : Way A) (ys : List (Held w)) →
    IsCounted (each_way w) (map (λ e. e.0) ys)
each_held w [] = at0 (each_way w) [] (λ c. refl) refl
each_held w (y ∷ ys) =
    at2 (each_way w) (λ x xs. x ∷ xs) (λ x xs c. refl) (λ x xs. refl) (λ x xs. refl) y.1
    (each_held w ys)

pub option_held : {A : Type 0} (w : Way A) (o : Option (List (Held w))) →
    IsCounted (option_way (each_way w)) (option_map (map (λ e. e.0)) o)
option_held w None = at0 (option_way (each_way w)) None (λ c. refl) refl
option_held w (Some ys) =
    at1 (option_way (each_way w)) (λ xs. Some xs) (λ xs c. refl) (λ xs. refl) (λ xs. refl)
    (each_held w ys)

-- What a numbered tree's nodes are, and what stays of it, where its numbering is the turns that
-- count through it.
pub are_numbered : {A : Type 0} (w : Way A) (x : A) (c : Counting) → IsCounted w x
    → AreNumbered (w.nodes x) (w.nodes (w.counts x c).0) c (w.counts x c).1
are_numbered w x c k = record {
  numbers = λ n. ap (λ (r : List Node × Counting). slice_get r.0 n) (k.lists c)
      ∙ counted_at (w.nodes x) c n;
  starts = ap (λ (r : List Node × Counting). r.1.starts) (k.lists c)
      ∙ ap (λ (q : Counting). q.starts) (counted_rest (w.nodes x) c);
  comments = ap (λ (r : List Node × Counting). r.1.comments) (k.lists c)
      ∙ ap (λ (q : Counting). q.comments) (counted_rest (w.nodes x) c);
}

pub numbered_result : {A T E : Type 0} (w : Way A) (x y : A) (c d : Counting) (r : Result T E) →
    IsCounted w x
    → OnOk r (y ≡ (w.counts x c).0) → OnOk r (d ≡ (w.counts x c).1) →
    OnOk r (AreNumbered (w.nodes x) (w.nodes y) c d)
numbered_result w x y c d (Ok t) k tree rest = rw tree (rw rest (are_numbered w x c k))
numbered_result w x y c d (Err e) k tree rest = tt

pub bare_result : {A T E : Type 0} (w : Way A) (x y : A) (c : Counting) (r : Result T E) →
    IsCounted w x
    → OnOk r (y ≡ (w.counts x c).0) → OnOk r (w.bare y ≡ w.bare x)
bare_result w x y c (Ok t) k tree = rw tree (k.stays c)
bare_result w x y c (Err e) k tree = tt
