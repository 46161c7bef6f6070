-- What holds of a path search (own): the nodes of open components on a path, each reached from the
-- one before it, and what is known of where components start.
use Rattle.std.specs.Prelude.{ℕ, suc, ◌≡◌, ◌<◌, ◌≤◌, ◌+◌, ◌-◌, ◌*◌, ◌⊎◌, ◌++◌, List, [], ◌∷◌, length, take, drop, Option, Some, slice_get, slice_set}
use Rattle.base_components.specs.Graph.{Rows, HasEdge}
use Rattle.base_components.specs.Leading.{Leads}
use Rattle.ti_text.specs.Lists.{Has, AreDistinct}
use Rattle.base_components.specs.declared.search.Progress.{Progress}
use Rattle.base_components.specs.declared.search.Progress.TheVariants.{Unseen, OnPath, Closed}
use Rattle.base_components.specs.declared.search.Search.{Search}

-- each is above the one before it
abbrev pub Rises : List ℕ → Type 0
Rises xs = (i j x y : ℕ) → i < j → slice_get xs i ≡ Some x → slice_get xs j ≡ Some y → x < y

-- the node's component was closed
abbrev pub IsClosed : List Progress → ℕ → Type 0
IsClosed progress node = (c : ℕ) × (slice_get progress node ≡ Some (Closed c))

-- an edge from the node at place `k` to the node `w` was gone through: the component of `w` is
-- closed, or no component is known to start between them
abbrev pub IsExplored : List Progress → List ℕ → List ℕ → ℕ → ℕ → Type 0
IsExplored progress path starts k w = IsClosed progress w ⊎ ((m : ℕ) × (slice_get path m ≡ Some w) × ((s : ℕ) → Has starts s → s ≤ k → s ≤ m))

-- the path
pub record IsPath (graph : Rows) (progress : List Progress) (cursors path starts active : List ℕ) : Type 0 where
  pub nodes : length progress ≡ length graph
  pub cursor_each : length cursors ≡ length graph
  pub on : (v k : ℕ) → slice_get progress v ≡ Some (OnPath k) → slice_get path k ≡ Some v
  pub stands : (k v : ℕ) → slice_get path k ≡ Some v → slice_get progress v ≡ Some (OnPath k)
  pub fresh : (v : ℕ) → slice_get progress v ≡ Some Unseen → slice_get cursors v ≡ Some 0
  pub first : 0 < length path → Has starts 0
  pub starts_rise : Rises starts
  pub active_rises : Rises active
  pub held : (s : ℕ) → Has starts s → Has active s
  pub within : (k : ℕ) → Has active k → k < length path
  pub spent : (k v i : ℕ) (row : List (Option ℕ)) → slice_get path k ≡ Some v → (Has active k → ⊥) → slice_get cursors v ≡ Some i
      → slice_get graph v ≡ Some row → length row ≤ i
  pub forward : (j k u v : ℕ) → j ≤ k → slice_get path j ≡ Some u → slice_get path k ≡ Some v → Leads graph u v
  pub back : (j k u v : ℕ) → j ≤ k → slice_get path j ≡ Some u → slice_get path k ≡ Some v → ((s : ℕ) → Has starts s → j < s → k < s) → Leads graph v u
  pub explored : (k u i place w : ℕ) (row : List (Option ℕ)) → slice_get path k ≡ Some u → slice_get cursors u ≡ Some i → place < i
      → slice_get graph u ≡ Some row → slice_get row place ≡ Some (Some w) → IsExplored progress path starts k w

-- the closed components, all below a number
pub record AreGroups (graph : Rows) (progress : List Progress) (count : ℕ) : Type 0 where
  pub edges : (u w c : ℕ) → slice_get progress u ≡ Some (Closed c) → HasEdge graph u w → (d : ℕ) × (slice_get progress w ≡ Some (Closed d)) × (d ≤ c)
  pub same : (u w c : ℕ) → slice_get progress u ≡ Some (Closed c) → slice_get progress w ≡ Some (Closed c) → Leads graph u w
  pub below : (u c : ℕ) → slice_get progress u ≡ Some (Closed c) → c < count

-- the nodes in the order of closing
pub record IsOrderSoFar (progress : List Progress) (order : List ℕ) : Type 0 where
  pub listed : (u c : ℕ) → slice_get progress u ≡ Some (Closed c) → Has order u
  pub closed : (i u : ℕ) → slice_get order i ≡ Some u → (c : ℕ) × (slice_get progress u ≡ Some (Closed c)) × (c ≤ i)
  pub early : (j w d u c : ℕ) → slice_get order j ≡ Some w → slice_get progress w ≡ Some (Closed d) → slice_get progress u ≡ Some (Closed c) → d < c → j < c
  pub first : (u c : ℕ) → slice_get progress u ≡ Some (Closed c) → (v : ℕ) × (slice_get order c ≡ Some v) × (slice_get progress v ≡ Some (Closed c))
  pub once : AreDistinct order

pub record IsWalk (graph : Rows) (progress : List Progress) (cursors path starts active order : List ℕ) : Type 0 where
  pub going : IsPath graph progress cursors path starts active
  pub shut : AreGroups graph progress (length order)
  pub listing : IsOrderSoFar progress order

-- the search is as described
abbrev pub IsWalkOf : Rows → Search → Type 0
IsWalkOf graph s = IsWalk graph s.progress.items s.cursors.items s.path.items s.starts.items s.active.items s.order.items

-- the node was put at the end of the path
pub record Enters (old new : Search) (node : ℕ) : Type 0 where
  pub progress : new.progress.items ≡ slice_set old.progress.items node (OnPath (length old.path.items))
  pub cursors : new.cursors.items ≡ old.cursors.items
  pub path : new.path.items ≡ old.path.items ++ node ∷ []
  pub starts : new.starts.items ≡ old.starts.items ++ length old.path.items ∷ []
  pub active : new.active.items ≡ old.active.items ++ length old.path.items ∷ []
  pub order : new.order.items ≡ old.order.items

-- what lies above the place was taken off
pub record IsCutOffAt (old new : List ℕ) (place : ℕ) : Type 0 where
  pub rises : Rises new
  pub kept : (s : ℕ) → Has new s → Has old s × (s ≤ place)
  pub left : (s : ℕ) → Has old s → s ≤ place → Has new s

-- the nodes were closed under this number
pub record IsMarked (old new : List Progress) (nodes : List ℕ) (number : ℕ) : Type 0 where
  pub as_many : length new ≡ length old
  pub closed : (v : ℕ) → Has nodes v → slice_get new v ≡ Some (Closed number)
  pub kept : (v : ℕ) → (Has nodes v → ⊥) → slice_get new v ≡ slice_get old v

-- the nodes of the path from `start` on were closed, and left it
pub record ClosesPath (old new : Search) (start : ℕ) : Type 0 where
  pub progress : IsMarked old.progress.items new.progress.items (drop start old.path.items) (length old.order.items)
  pub cursors : new.cursors.items ≡ old.cursors.items
  pub path : new.path.items ≡ take start old.path.items
  pub starts : new.starts.items ≡ old.starts.items
  pub active : new.active.items ≡ old.active.items
  pub order : new.order.items ≡ old.order.items ++ drop start old.path.items

-- a node that was met remains met
abbrev pub KeepsMet : Search → Search → Type 0
KeepsMet old new = (v : ℕ) → slice_get new.progress.items v ≡ Some Unseen → slice_get old.progress.items v ≡ Some Unseen

-- the place is the last that is active
pub record IsTop (active : List ℕ) (place : ℕ) : Type 0 where
  pub top : ℕ
  pub count : length active ≡ suc top
  pub stands : slice_get active top ≡ Some place

-- an edge from the node at the last active place was followed, if it leads somewhere
pub record IsFollowed (graph : Rows) (new : Search) (place node : ℕ) (edge : Option ℕ) : Type 0 where
  pub walk : IsWalkOf graph new
  pub stays : slice_get new.path.items place ≡ Some node
  pub explored : (target : ℕ) → edge ≡ Some target → IsExplored new.progress.items new.path.items new.starts.items place target

pub record Follows (old new : Search) (edge : Option ℕ) : Type 0 where
  pub cursors : new.cursors.items ≡ old.cursors.items
  pub met : KeepsMet old new
  pub few : length new.active.items ≤ length old.active.items + 1
  pub followed : (graph : Rows) (place node : ℕ) → IsWalkOf graph old → IsTop old.active.items place → slice_get old.path.items place ≡ Some node
      → ((target : ℕ) → edge ≡ Some target → HasEdge graph node target) → IsFollowed graph new place node edge

-- no edge is left of the node at the place
abbrev pub IsSpent : Rows → Search → ℕ → Type 0
IsSpent graph s place = (v i : ℕ) (row : List (Option ℕ)) → slice_get s.path.items place ≡ Some v → slice_get s.cursors.items v ≡ Some i
    → slice_get graph v ≡ Some row → length row ≤ i

-- the last active place was left
pub record Leaves (old new : Search) : Type 0 where
  pub cursors : new.cursors.items ≡ old.cursors.items
  pub met : KeepsMet old new
  pub fewer : length new.active.items + 1 ≡ length old.active.items
  pub left : (graph : Rows) (place : ℕ) → IsWalkOf graph old → IsTop old.active.items place → IsSpent graph old place → IsWalkOf graph new

-- how many edges were not gone through
abbrev pub edges_left : Rows → List ℕ → ℕ
edges_left [] cursors = 0
edges_left (row ∷ rows) [] = 0
edges_left (row ∷ rows) (cursor ∷ cursors) = (length row - cursor) + edges_left rows cursors

-- how many steps are left at most: two for each edge, to follow it and to leave what it leads to
abbrev pub steps_left : Rows → Search → ℕ
steps_left graph s = 2 * edges_left graph s.cursors.items + length s.active.items

-- a step of the search
pub record Steps (graph : Rows) (old new : Search) : Type 0 where
  pub walk : IsWalkOf graph new
  pub met : KeepsMet old new
  pub fewer : steps_left graph new < steps_left graph old

-- no component is open
pub record IsIdle (graph : Rows) (s : Search) : Type 0 where
  pub walk : IsWalkOf graph s
  pub idle : s.active.items ≡ []

-- a node and all that it leads to were closed
pub record WalksFrom (graph : Rows) (old new : Search) (root : ℕ) : Type 0 where
  pub idle : IsIdle graph new
  pub met : KeepsMet old new
  pub root_met : slice_get new.progress.items root ≡ Some Unseen → ⊥

-- nothing was met
pub record IsFresh (s : Search) (nodes : ℕ) : Type 0 where
  pub progress_each : length s.progress.items ≡ nodes
  pub cursor_each : length s.cursors.items ≡ nodes
  pub unseen : (v : ℕ) → v < nodes → slice_get s.progress.items v ≡ Some Unseen
  pub zero_each : (v : ℕ) → v < nodes → slice_get s.cursors.items v ≡ Some 0
  pub path : s.path.items ≡ []
  pub starts : s.starts.items ≡ []
  pub active : s.active.items ≡ []
  pub order : s.order.items ≡ []

-- all nodes were met, and no component is open
pub record IsSearched (graph : Rows) (s : Search) : Type 0 where
  pub idle : IsIdle graph s
  pub all : (v : ℕ) → slice_get s.progress.items v ≡ Some Unseen → ⊥

-- the number of each node whose component was closed
pub record AreClosedNumbers (progress : List Progress) (numbers : List ℕ) : Type 0 where
  pub number_each : length numbers ≡ length progress
  pub number : (v c : ℕ) → slice_get progress v ≡ Some (Closed c) → slice_get numbers v ≡ Some c
