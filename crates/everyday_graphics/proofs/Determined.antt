-- Only one thing is written of a block.
use Rattle.std.proofs.Common.{◌≡◌, ℕ, Bool, true, false, List, [], ◌∷◌, sym, ap, ◌∙◌, subst, refl}
use Rattle.std.specs.List.{AllZip}
use Rattle.std.proofs.lemmas.Option.{none-some, same_Some}
use Rattle.ti_source.specs.declared.parsing.Rule.{Rule}
use Rattle.ti_source.specs.Parsing.{reading_of_text}
use Rattle.base_meaning.specs.Compiled.{EntryState}
use Rattle.user_values.specs.Expansion.{first_said}
use Rattle.user_compiling.specs.Rows.{AreRowsOf, RowsAreDetermined}
use Rattle.everyday_graphics.specs.Entries.{IsDrawnState, IsWrittenState, does_not_resolve, does_resolve, drawn_state}
use Rattle.everyday_graphics.specs.Laws.{WrittenStatesAreDetermined}

module _ (determined : RowsAreDetermined) (draws : Bool) (rule : Rule) (texts : List (List ℕ)) where
  one-drawn : (text : List ℕ) (state other : EntryState) → IsDrawnState draws rule texts text state → IsDrawnState draws rule texts text other → state ≡ other
  one-drawn text _ _ (does_not_resolve e) (does_not_resolve f) = refl
  one-drawn text _ _ (does_not_resolve e) (does_resolve {state = t} h) = absurd (none-some h.mentions (sym e ∙ h.expands))
  one-drawn text _ _ (does_resolve {state = s} g) (does_not_resolve f) = absurd (none-some g.mentions (sym f ∙ g.expands))
  one-drawn text _ _ (does_resolve {state = s} g) (does_resolve {state = t} h) =
      let block = reading_of_text text in
      let mentions = same_Some g.mentions h.mentions (sym g.expands ∙ h.expands) in
      let user_mentions = same_Some g.user_mentions h.user_mentions (sym g.user_expands ∙ h.user_expands) in
      let rows = determined (first_said g.user_mentions) g.rows h.rows g.are_rows
      (subst (λ ms. AreRowsOf (first_said ms) h.rows) (sym user_mentions) h.are_rows) in
      g.is ∙ ap (λ ms. drawn_state draws block ms g.rows) mentions ∙ ap (drawn_state draws block h.mentions) rows ∙ sym h.is

  one-written : (user_defined : Bool) (text : List ℕ) (state other : EntryState) → IsWrittenState rule user_defined draws texts text state
      → IsWrittenState rule user_defined draws texts text other → state ≡ other
  one-written true text state other g h = one-drawn text state other g h
  one-written false text state other g h = g ∙ sym h

all-one : {X Y : Type 0} (R : X → Y → Type 0) (xs : List X) (ys zs : List Y) → ((x : X) (y z : Y) → R x y → R x z → y ≡ z)
    → AllZip R xs ys → AllZip R xs zs → ys ≡ zs
all-one R [] [] [] one g h = refl
all-one R [] [] (z ∷ zs) one g h = absurd h
all-one R [] (y ∷ ys) zs one g h = absurd g
all-one R (x ∷ xs) [] zs one g h = absurd g
all-one R (x ∷ xs) (y ∷ ys) [] one g h = absurd h
all-one R (x ∷ xs) (y ∷ ys) (z ∷ zs) one g h =
    ap (λ v. v ∷ ys) (one x y z g.0 h.0) ∙ ap (λ vs. z ∷ vs) (all-one R xs ys zs one g.1 h.1)

pub one_list : RowsAreDetermined → WrittenStatesAreDetermined
one_list determined rule user_defined draws texts states others g h =
    all-one (IsWrittenState rule user_defined draws texts) texts states others (one-written determined draws rule texts user_defined) g h
