-- How words are parted into commands (tput(1)): each name takes as many words as its string has
-- parameters, and what follows is the next.
use Rattle.std.specs.Prelude.{◌≡◌, ℕ, Bool, true, false, nat_lt, ◌&&◌, ◌||◌, not, is_some, bytes_eq, codes, List, [], ◌∷◌, take, drop, length}
use Rattle.ti_caps.specs.Tables.{capability_named}
use Rattle.ti_formats.specs.Formats.{IsStuck}
use Rattle.ti_formats.specs.Parameters.{TakesParameters}
use Rattle.ti_formats.specs.declared.taken.TakenParameters.{TakenParameters}
use Rattle.ti_layout.specs.View.{Entry}
use Rattle.everyday_tput.specs.Answers.{Command, FullEntry, HasNoText, HasText, alone, is_own_name, with_words, without_extension}
use Rattle.everyday_tput.specs.Parameters.{least_words, words_by}

-- a name takes so many of the words after it: as many as its string has parameters; none if it has
-- no string
pub data Takes (e : FullEntry) (cap : List ℕ) : ℕ → Type 0 where
  of_text : {text : List ℕ} {taken : TakenParameters} → HasText e cap text → TakesParameters text taken → Takes e cap (words_by cap taken)
  of_stuck : {text : List ℕ} {place : ℕ} → HasText e cap text → IsStuck text place → Takes e cap (least_words cap)
  of_no_text : HasNoText e cap → Takes e cap 0

-- Words are these commands, and then the rest. A name that takes more words than there are has what
-- is left.
pub data AreCommands (e : FullEntry) : List (List ℕ) → List Command → List (List ℕ) → Type 0 where
  no_command : {words : List (List ℕ)} → AreCommands e words [] words
  last_name : {cap : List ℕ} → AreCommands e (cap ∷ []) (alone cap ∷ []) []
  name_with_words : {cap word : List ℕ} {words rest : List (List ℕ)} {commands : List Command} {n : ℕ} → Takes e cap n →
      AreCommands e (drop n (word ∷ words)) commands rest → AreCommands e (cap ∷ (word ∷ words)) (with_words cap (take n (word ∷ words)) ∷ commands) rest

-- ---- what is user-defined

-- whether a name is in no table, and `tput` has no answer of its own for it
abbrev pub is_unknown_to_tables : List ℕ → Bool
is_unknown_to_tables cap = not (is_own_name cap || is_some (capability_named cap))

-- whether the output of words may depend on what is user-defined: the first name is in no table, is
-- a `clear` that does not keep the scrollback, or is not the only one
pub data NeedsExtension (entry : Entry) (keeps_scrollback : Bool) : List (List ℕ) → Bool → Type 0 where
  no_name : NeedsExtension entry keeps_scrollback [] false
  unknown : {cap : List ℕ} {words : List (List ℕ)} → is_unknown_to_tables cap ≡ true → NeedsExtension entry keeps_scrollback (cap ∷ words) true
  clearing : {cap : List ℕ} {words : List (List ℕ)} → (bytes_eq cap (codes "clear") && not keeps_scrollback) ≡ true →
      NeedsExtension entry keeps_scrollback (cap ∷ words) true
  one_name : {cap : List ℕ} → is_unknown_to_tables cap ≡ false → (bytes_eq cap (codes "clear") && not keeps_scrollback) ≡ false →
      NeedsExtension entry keeps_scrollback (cap ∷ []) false
  by_words : {cap word : List ℕ} {words : List (List ℕ)} {n : ℕ} → is_unknown_to_tables cap ≡ false →
      (bytes_eq cap (codes "clear") && not keeps_scrollback) ≡ false → Takes (without_extension entry) cap n →
      NeedsExtension entry keeps_scrollback (cap ∷ (word ∷ words)) (nat_lt n (length (word ∷ words)))
