-- What is said about each capability: what the table of this crate has at its place. The table is data,
-- in the order of the compiled entry (own sentences; the variables are those of X/Open Curses, the
-- parameters those of terminfo(5)); a test compares each row with the manual's.
use Rattle.std.specs.Prelude.{ℕ, List, [], ◌++◌, map, slice_get, unwrap_or}
use Rattle.ti_caps.specs.Tables.{Capability}
use Rattle.ti_caps.specs.declared.capability.Kind.{Kind}
use Rattle.ti_caps.specs.declared.capability.Kind.TheVariants.{Flag, Number, Text}
use Rattle.source_descriptions.specs.declared.descriptions.Description.{Description}
use Rattle.source_descriptions.specs.declared.descriptions.TheConstants.{FLAGS, NUMBERS, PART_1, PART_2, PART_3, PART_4, PART_5, PART_6}

-- the name of its variable, a sentence on it, and the parameters that a string takes
pub record Described : Type 0 where
  pub variable : List ℕ
  pub sentence : List ℕ
  pub parameters : List ℕ

-- a description that is held in memory, as plain data
abbrev pub description_seen : Description → Described
description_seen said = record { variable = said.variable.now; sentence = said.sentence.now; parameters = said.parameters.now }

-- what is said by a variable, a sentence and parameters
abbrev pub told : List ℕ → List ℕ → List ℕ → Described
told variable sentence parameters = record { variable = variable; sentence = sentence; parameters = parameters }

-- what the rows of a kind say, by index
unfoldable pub rows : Kind → List Described
rows Flag = map (λ r. told r.0.now r.1.now r.2.now) FLAGS
rows Number = map (λ r. told r.0.now r.1.now r.2.now) NUMBERS
rows Text =
    map (λ r. told r.0.now r.1.now r.2.now) PART_1 ++ map (λ r. told r.0.now r.1.now r.2.now) PART_2 ++ map (λ r. told r.0.now r.1.now r.2.now) PART_3
    ++ map (λ r. told r.0.now r.1.now r.2.now) PART_4 ++ map (λ r. told r.0.now r.1.now r.2.now) PART_5 ++ map (λ r. told r.0.now r.1.now r.2.now) PART_6

-- what is said about a capability: the row of its kind at its index
abbrev pub described : Capability → Described
described c = unwrap_or (slice_get (rows c.kind) c.index) (told [] [] [])
