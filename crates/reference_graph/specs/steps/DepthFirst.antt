-- What is kept in a search depth first, and what is known once all nodes were searched.
use Rattle.std.specs.Prelude.{◌≡◌, ◌≢◌, ℕ, suc, ◌+◌, ◌*◌, ◌<◌, ◌≤◌, ◌⊎◌, Bool, true, false, List, [], ◌∷◌, Some, length, map, slice_get}
use Rattle.std.specs.List.{Contains}
use Rattle.reference_graph.specs.declared.depth_first.Mark.{Mark}
use Rattle.reference_graph.specs.declared.depth_first.Mark.TheVariants.{New, Open, Finished}
use Rattle.reference_graph.specs.declared.depth_first.Frame.{Frame}
use Rattle.reference_graph.specs.Graph.{Rows, Edge, targets}
use Rattle.reference_graph.specs.Reach.{Reaches, StandsBefore, HasCycle}

-- how many nodes are new
abbrev pub news : List Mark → ℕ
news [] = 0
news (New ∷ marks) = suc (news marks)
news (Open ∷ marks) = news marks
news (Finished ∷ marks) = news marks

-- the node isn't new
abbrev pub IsSeen : List Mark → ℕ → Type 0
IsSeen marks x = slice_get marks x ≢ Some New

-- nodes that were not new are not new
abbrev pub KeepsSeen : List Mark → List Mark → Type 0
KeepsSeen before after = (x : ℕ) → IsSeen before x → IsSeen after x

-- the nodes of frames
abbrev pub way_of : List Frame → List ℕ
way_of stack = map (λ f. f.node) stack

-- A search of the graph. Open nodes are those of the way, each of which reaches those behind it; finished ones are
-- listed, each once. Where no cycle was met, each finished node is listed behind its targets.
pub record IsSearch (g : Rows) (marks : List Mark) (way finished : List ℕ) (cyclic : Bool) : Type 0 where
  pub nodes : length marks ≡ length g
  pub open_listed : (x : ℕ) → slice_get marks x ≡ Some Open → Contains way x
  pub listed_open : (x : ℕ) → Contains way x → slice_get marks x ≡ Some Open
  pub path : (i j x y : ℕ) → i < j → slice_get way i ≡ Some x → slice_get way j ≡ Some y → (x ≢ y) × Reaches g x y
  pub finished_listed : (x : ℕ) → slice_get marks x ≡ Some Finished → Contains finished x
  pub listed_finished : (x : ℕ) → Contains finished x → slice_get marks x ≡ Some Finished
  pub once : (i j x : ℕ) → slice_get finished i ≡ Some x → slice_get finished j ≡ Some x → i ≡ j
  pub met : cyclic ≡ true → HasCycle g
  pub order : cyclic ≡ false → (a b : ℕ) → Contains finished a → Edge g a b → StandsBefore finished b a
  pub counted : length finished + length way + news marks ≡ length marks

-- no target that a frame has passed is new
abbrev pub HavePassed : Rows → List Mark → List Frame → Type 0
HavePassed g marks stack =
    (i k b : ℕ) (f : Frame) → slice_get stack i ≡ Some f → k < f.next → slice_get (targets g f.node) k ≡ Some b
    → IsSeen marks b

-- a cycle is met where one of the targets is open
abbrev pub Meets : List ℕ → List Mark → Bool → Bool → Type 0
Meets row marks before after =
    ((after ≡ before) × ((b : ℕ) → Contains row b → slice_get marks b ≢ Some Open))
    ⊎ ((after ≡ true) × ((b : ℕ) × Contains row b × (slice_get marks b ≡ Some Open)))

-- after a step, in which a frame was taken off the stack
pub record IsStep (g : Rows) (marks : List Mark) (stack : List Frame) (marks' : List Mark) (stack' : List Frame)
    (finished : List ℕ) (cyclic : Bool) : Type 0 where
  pub search : IsSearch g marks' (way_of stack') finished cyclic
  pub passed : HavePassed g marks' stack'
  pub seen : KeepsSeen marks marks'
  pub fewer : 2 * news marks' + length stack' ≤ 2 * news marks + length stack

-- each node is listed once, and behind its targets where there is no cycle
pub record IsSearched (g : Rows) (finished : List ℕ) (cyclic : Bool) : Type 0 where
  pub all : (a : ℕ) → a < length g → Contains finished a
  pub nodes : (a : ℕ) → Contains finished a → a < length g
  pub few : length finished ≤ length g
  pub once : (i j x : ℕ) → slice_get finished i ≡ Some x → slice_get finished j ≡ Some x → i ≡ j
  pub met : cyclic ≡ true → HasCycle g
  pub order : cyclic ≡ false → (a b : ℕ) → Contains finished a → Edge g a b → StandsBefore finished b a
