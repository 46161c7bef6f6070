-- The files that a tree in memory holds, and the call that is set to fail (own).
use Rattle.std.specs.Prelude.{◌≡◌, ◌≢◌, ℕ, ◌+◌, ◌-◌, List, Result, Ok, Err, option_map}
use Rattle.std.specs.BTreeMap.{get_by_text}
use Rattle.tools_devices.specs.Tree.{Files}
use Rattle.tools_devices.specs.declared.memory_tree.MemTree.{MemTree}
use Rattle.tools_devices.specs.declared.tree.TreeFault.{TreeFault}
use Rattle.tools_devices.specs.declared.tree.TreeFault.TheVariants.{Failed, Memory}

-- the bytes of the file that the tree holds at each path, if it holds one there
abbrev pub files_of : MemTree → Files
files_of tree path = option_map (λ bytes. bytes.items) (get_by_text tree.held path)

-- each path holds what it held before
abbrev pub SameFiles : MemTree → MemTree → Type 0
SameFiles before now = (path : List ℕ) → files_of now path ≡ files_of before path

-- how often the tree has failed
abbrev pub tree_failures_of : MemTree → ℕ
tree_failures_of tree = tree.failures.count

-- which call from now is to fail, counted from 1; 0 if none is
abbrev pub due_of : MemTree → ℕ
due_of tree = tree.due

-- the call that was to fail: one failure more, no file is changed, and no further call is to fail
pub record FailsAsSet (before now : MemTree) : Type 0 where
  pub due : due_of before ≡ 1
  pub spent : due_of now ≡ 0
  pub failures : tree_failures_of now ≡ tree_failures_of before + 1
  pub files : SameFiles before now

-- any other call: no failure, and the one that is to fail is a call nearer
pub record ComesNearer (before now : MemTree) : Type 0 where
  pub not_due : due_of before ≢ 1
  pub nearer : due_of now ≡ due_of before - 1
  pub failures : tree_failures_of now ≡ tree_failures_of before

-- the call that is to fail returns `Failed`, and no other call does
abbrev pub FailsWhereSet : {X : Type 0} → MemTree → MemTree → Result X TreeFault → Type 0
FailsWhereSet before now (Ok _) = ComesNearer before now
FailsWhereSet before now (Err Failed) = FailsAsSet before now
FailsWhereSet before now (Err Memory) = ComesNearer before now
