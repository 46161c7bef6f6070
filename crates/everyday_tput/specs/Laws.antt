-- Laws of the definitions of this crate (own).
use Rattle.std.specs.Prelude.{◌≡◌, ℕ, List, ℤ, false, ◌&&◌, not, bytes_eq, codes}
use Rattle.tools_tput.specs.Results.{Reply}
use Rattle.everyday_tput.specs.Answers.{Answers, Command, FullEntry, FullTarget, name_of}
use Rattle.everyday_tput.specs.Commands.{Takes, is_unknown_to_tables}

-- a target with other user-defined capabilities
abbrev pub with_full : FullTarget → FullEntry → FullTarget
with_full t full = record t { full = full }

-- A name that the tables know takes the same words whatever user-defined capabilities the entry has,
-- and, but for a `clear` that clears the scrollback, a command of it has the same answer.
pub record TablesNeedNoExtension : Type 0 where
  pub takes : (e other : FullEntry) (cap : List ℕ) (n : ℕ) → e.entry ≡ other.entry → is_unknown_to_tables cap ≡ false → Takes e cap n → Takes other cap n
  pub answers : (t : FullTarget) (other : FullEntry) (statics : List ℤ) (command : Command) (answer : Reply) → t.full.entry ≡ other.entry
      → is_unknown_to_tables (name_of command) ≡ false → (bytes_eq (name_of command) (codes "clear") && not t.keeps_scrollback) ≡ false
      → Answers t statics command answer → Answers (with_full t other) statics command answer
