-- Words that are read one after another.
use Rattle.std.proofs.Common.{◌≡◌, ◌∙◌, ◌+◌, ◌<◌, ℕ, List, ◌∷◌, length, map, drop, get_or, Result, Ok, Err, sym, ap, subst}
use Rattle.std.proofs.lemmas.List.{at_drop_more}
use Rattle.everyday_tabs.specs.Words.{IsRefused, Refused, Settings, asked_after, unless_refused, with_word}
use Rattle.everyday_tabs.specs.declared.settings.WordsError.{WordsError}
use Rattle.everyday_tabs.specs.declared.settings.WordsError.TheVariants as error

-- words, each of which has a text
module _ {X : Type 0} (text : X → List ℕ) where
  -- what the rest of the words asks for, by the first of them
  from_word : (s : Settings) (words : List X) (i : ℕ) (word : X) → i < length words → word ≡ get_or words i word
      → asked_after s (map text (drop i words))
      ≡ unless_refused (with_word s (text word)) (λ after. asked_after after (map text (drop (i + 1) words)))
  from_word s words i word within is =
      at_drop_more (λ rest. asked_after s (map text rest)) words i word within
      ∙ ap (λ w. unless_refused (with_word s (text w)) (λ after. asked_after after (map text (drop (i + 1) words)))) (sym is)

  -- a word that was taken: the rest decides
  pub one_more : (s : Settings) (words : List X) (i : ℕ) (word : X) (new : Settings) (all : Result Settings Refused) → i < length words
      → word ≡ get_or words i word → with_word s (text word) ≡ Ok new → asked_after s (map text (drop i words)) ≡ all
      → asked_after new (map text (drop (i + 1) words)) ≡ all
  one_more s words i word new all within is took before =
      ap (λ r. unless_refused r (λ after. asked_after after (map text (drop (i + 1) words)))) (sym took)
      ∙ sym (from_word s words i word within is) ∙ before

  -- a word that was refused is why all of them are
  pub refused_at : (s : Settings) (words : List X) (i : ℕ) (word : X) (asked all : Result Settings Refused) → i < length words
      → word ≡ get_or words i word → asked ≡ with_word s (text word) → (why : WordsError) → IsRefused asked why
      → asked_after s (map text (drop i words)) ≡ all → IsRefused all why
  refused_at s words i word asked all within is same (error.Unsupported w) refused before =
      sym before ∙ from_word s words i word within is
      ∙ ap (λ r. unless_refused r (λ after. asked_after after (map text (drop (i + 1) words)))) (sym same ∙ refused)
  refused_at s words i word asked all within is same error.Version refused before =
      sym before ∙ from_word s words i word within is
      ∙ ap (λ r. unless_refused r (λ after. asked_after after (map text (drop (i + 1) words)))) (sym same ∙ refused)
  refused_at s words i word asked all within is same error.NoName refused before =
      sym before ∙ from_word s words i word within is
      ∙ ap (λ r. unless_refused r (λ after. asked_after after (map text (drop (i + 1) words)))) (sym same ∙ refused)
  refused_at s words i word asked all within is same error.Memory refused before = tt
