-- A block that does not depend on an edit says after it what it said.
use Rattle.std.proofs.Common.{◌≡◌, ℕ, inl, inr, List, Option, Some, None, option_map, option_and_then, slice_get, refl, sym, ◌∙◌, ap, subst}
use Rattle.std.proofs.lemmas.Bool.{false_from_ne_true}
use Rattle.ti_source.specs.declared.parsing.Rule.{Rule}
use Rattle.ti_source.specs.declared.parsing.Rule.TheVariants.{Leftmost}
use Rattle.ti_source.specs.Parsing.{reading_of_text}
use Rattle.base_meaning.specs.Owner.{is_among, owner, owner_block, readings}
use Rattle.base_meaning.specs.Expansion.{expansion as expansion_there}
use Rattle.base_meaning.specs.Edits.{Change, IsInPlace, list_after}
use Rattle.base_meaning.specs.Exchange.{old_list, new_list, shifted_position, exchange_of}
use Rattle.base_meaning.specs.Dependents.{touched_names, ReachesOne, IsDependent}
use Rattle.base_meaning.specs.Reaching.{Uses}
use Rattle.base_meaning.proofs.Placing.{get-with, owner-with, split-with, shifted-other}
use Rattle.base_meaning.proofs.KeptWays.{IsFree}
use Rattle.base_meaning.proofs.Exchanging.{off_old, off_new}
use Rattle.base_meaning.proofs.KeptFaults.{kept_block, touched_in_both}
use Rattle.base_meaning.proofs.ExchangeLaws.{exchanged}
use Rattle.user_values.specs.Expansion.{expand_by, expansion_by}
use Rattle.user_values.proofs.Resolving.{read_text}
use Rattle.user_kept.specs.Places.{position_before}
use Rattle.user_kept.specs.Untouched.{IsUntouched, UntouchedBlocksSayTheSame, UntouchedBlocksSayTheSameByRule}
use Rattle.user_kept.proofs.Places.{PutsAt, put_text, remained, texts_after, shifted_before, put_in}
use Rattle.user_kept.proofs.KeptExpansions.{AgreeOff, expand-kept, expansion-same}

-- a text that the edit does not put in stood in the source before
pub stood_before : (texts : List (List ℕ)) (change : Change) (at : ℕ) → IsInPlace texts change → (PutsAt change at → ⊥)
    → slice_get (list_after texts change) at ≡ slice_get texts (position_before change at)
stood_before texts change at h other =
    ap (λ ts. slice_get ts at) (texts_after texts change) ∙ remained texts change texts (put_text change) at h refl other

module _ (texts : List (List ℕ)) (change : Change) (h : IsInPlace texts change) where
  text_at : (k : ℕ) → slice_get (list_after texts change) (shifted_position (exchange_of texts change).put k)
      ≡ slice_get texts (shifted_position (exchange_of texts change).out k)
  text_at k =
      let e = exchange_of texts change in
      stood_before texts change (shifted_position e.put k) h (λ p. shifted-other e.put k (put_in texts change (shifted_position e.put k) h p))
      ∙ ap (slice_get texts) (shifted_before texts change k h)

  owned_at : (o : Option ℕ) → option_and_then (slice_get (list_after texts change)) (option_map (shifted_position (exchange_of texts change).put) o)
      ≡ option_and_then (slice_get texts) (option_map (shifted_position (exchange_of texts change).out) o)
  owned_at None = refl
  owned_at (Some k) = text_at k

  agree : AgreeOff (λ n. is_among n (touched_names (exchange_of texts change))) texts (list_after texts change)
  agree n off =
      let e = exchange_of texts change in
      let led = exchanged texts change h in
      let old = off_old e led.fits in
      let new = off_new e led.fits in
      let here : owner (readings texts) n ≡ option_map (shifted_position e.out) (owner e.rest n) =
      ap (λ bs. owner bs n) (sym led.old) ∙ owner-with e.rest e.out n old.place (old.off n off) in
      let there : owner (readings (list_after texts change)) n ≡ option_map (shifted_position e.put) (owner e.rest n) =
      ap (λ bs. owner bs n) (sym led.new) ∙ owner-with e.rest e.put n new.place (new.off n off) in
      ap (option_and_then (slice_get texts)) here ∙ sym (owned_at (owner e.rest n)) ∙ sym (ap (option_and_then (slice_get (list_after texts change))) there)

  -- a block that does not depend on the edit reaches no name that it touches
  free_at : (at : ℕ) (text : List ℕ) → slice_get (list_after texts change) at ≡ Some text → (IsDependent (exchange_of texts change) at → ⊥)
      → (n : List ℕ) → Uses (reading_of_text text).items n
      → IsFree (owner_block (readings texts)) (λ m. is_among m (touched_names (exchange_of texts change))) n
  free_at at text stands other n u way to w =
      let e = exchange_of texts change in
      let led = exchanged texts change h in
      let block = reading_of_text text in
      let here : slice_get (new_list e) at ≡ Some block =
      ap (λ bs. slice_get bs at) led.new ∙ read_text (list_after texts change) at text stands in
      let apart : ReachesOne (old_list e) (touched_names e) block → ⊥ = λ r. other (block, here, inr ((touched_in_both e block led.fits).0 r)) in
      false_from_ne_true (is_among to (touched_names e))
      (λ t. apart (subst (λ bs. ReachesOne bs (touched_names e) block) (sym led.old) (to, t, (n, way, u, w))))

  stood_at : (at : ℕ) (text : List ℕ) → slice_get (list_after texts change) at ≡ Some text → (IsDependent (exchange_of texts change) at → ⊥)
      → slice_get texts (position_before change at) ≡ Some text
  stood_at at text stands other =
      let e = exchange_of texts change in
      let led = exchanged texts change h in
      let here : slice_get (new_list e) at ≡ Some (reading_of_text text) =
      ap (λ bs. slice_get bs at) led.new ∙ read_text (list_after texts change) at text stands in
      sym (stood_before texts change at h (λ p. other (reading_of_text text, here, inl (put_in texts change at h p)))) ∙ stands

  -- by each rule it says at each depth what it said
  deep_at : (rule : Rule) (at : ℕ) (text : List ℕ) → slice_get (list_after texts change) at ≡ Some text
      → (IsDependent (exchange_of texts change) at → ⊥) → (k : ℕ) → expand_by rule (list_after texts change) k text ≡ expand_by rule texts k text
  deep_at rule at text stands other k =
      expand-kept rule (λ m. is_among m (touched_names (exchange_of texts change))) texts (list_after texts change) agree k text
      (free_at at text stands other)

  pub same_at : (rule : Rule) (at : ℕ) (text : List ℕ) → slice_get (list_after texts change) at ≡ Some text
      → (IsDependent (exchange_of texts change) at → ⊥) → expansion_by rule (list_after texts change) text ≡ expansion_by rule texts text
  same_at rule at text stands other =
      expansion-same rule texts (list_after texts change) (position_before change at) at text (stood_at at text stands other) stands
      (deep_at rule at text stands other)

  untouched_at : (at : ℕ) (text : List ℕ) → slice_get (list_after texts change) at ≡ Some text → (IsDependent (exchange_of texts change) at → ⊥)
      → IsUntouched texts change at text
  untouched_at at text stands other =
      let e = exchange_of texts change in
      let led = exchanged texts change h in
      let next = list_after texts change in
      let block = reading_of_text text in
      let here : slice_get (new_list e) at ≡ Some block = ap (λ bs. slice_get bs at) led.new ∙ read_text next at text stands in
      let apart : ReachesOne (old_list e) (touched_names e) block → ⊥ = λ r. other (block, here, inr ((touched_in_both e block led.fits).0 r)) in
      record {
        stood = stood_at at text stands other;
        at_depth = deep_at Leftmost at text stands other;
        user_mentions = same_at Leftmost at text stands other;
        mentions = elim (split-with e.put at) [
          | inl put ↦ absurd (other (block, here, inl put))
          | inr stays ↦
              let k = stays.0 in
              let rest : slice_get e.rest k ≡ Some block =
              sym (get-with e.rest e.put k led.fits.put) ∙ (ap (slice_get (new_list e)) stays.1 ∙ here) in
              let kept = (kept_block e k block led.fits rest apart).mentions in
              sym (ap (λ bs. expansion_there bs block) led.new) ∙ kept ∙ ap (λ bs. expansion_there bs block) led.old
        ];
      }

pub untouched : UntouchedBlocksSayTheSame
untouched = λ texts change at text h stands other. untouched_at texts change h at text stands other

pub untouched_by_rule : UntouchedBlocksSayTheSameByRule
untouched_by_rule = λ rule texts change at text h stands other. same_at texts change h rule at text stands other
