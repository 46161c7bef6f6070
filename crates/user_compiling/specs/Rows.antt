-- Which user-defined capabilities an entry has (user_caps(5), "Extended storage format" of term(5)).
use Rattle.std.specs.Prelude.{◌≡◌, ◌↔◌, ℕ, IsTrue, List, Option, Some}
use Rattle.std.specs.List.{AllPairs, Contains}
use Rattle.ti_layout.specs.Values.{Content}
use Rattle.ti_layout.specs.Laws.{without_cancel}
use Rattle.user_extension.specs.UserDefined.{Row, comes_before}

-- the user-defined capabilities of a block that says this of names: each name that has a value, with
-- that, in the order of kinds and names
pub record AreRowsOf (said : List ℕ → Option Content) (rows : List Row) : Type 0 where
  pub rise : AllPairs (λ u v. IsTrue (comes_before u v)) rows
  pub each : (name : List ℕ) (content : Content) → Contains rows (name, content) ↔ (without_cancel (said name) ≡ Some content)

-- there is only one such list
abbrev pub RowsAreDetermined : Type 0
RowsAreDetermined = (said : List ℕ → Option Content) (one other : List Row) → AreRowsOf said one → AreRowsOf said other → one ≡ other
