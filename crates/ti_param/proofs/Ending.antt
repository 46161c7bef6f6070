-- How an expansion ends, by the acceptor and by the run.
use Rattle.std.proofs.Common.{◌≡◌, ℕ, List, refl, ap, sym, ◌∙◌, subst}
use Rattle.std.specs.Prelude.{Some, None, Result, Ok, Err, IsErrOf, ◌↔◌, ℤ}
use Rattle.ti_param.specs.declared.errors.ParamError.{ParamError}
use Rattle.ti_param.specs.declared.errors.ParamError.TheVariants.{BadFormat, StackFull, Memory}
use Rattle.ti_formats.specs.Formats.{FormatTree, IsTree, IsStuck}
use Rattle.ti_formats.specs.inside.Formats.{stuck_place, tree_of}
use Rattle.ti_param.specs.Meaning.{FormatArgument, MachineState, start, meaning}
use Rattle.ti_param.specs.Expansion.{Expands, Overflows}
use Rattle.ti_param.specs.inside.Expansion.{HasOutcome, IsStuckError}
use Rattle.ti_formats.proofs.OneTree.{is_computed}

-- the tree of a format that is not stuck
whole : (format : List ℕ) → stuck_place format ≡ None → IsTree format (tree_of format)
whole format none = ((is_computed format).tree (tree_of format)).1 (none, refl)

-- ---- the format is refused

pub refused-bad_format : {T : Type 0} (format : List ℕ) (e : ParamError) → IsStuckError e (stuck_place format) →
    (place : ℕ) → IsErrOf {T = T} {E = ParamError} (Err e) (BadFormat place) ↔ IsStuck format place
refused-bad_format format (BadFormat at) refusal place = (
  λ is. let same : at ≡ place = cc is in ((is_computed format).stuck place).1 (refusal ∙ ap Some same),
  λ stuck. let same : Some at ≡ Some place = sym refusal ∙ ((is_computed format).stuck place).0 stuck in ap (λ p. Err (BadFormat p)) (cc same),
)
refused-bad_format format (StackFull at) refusal place = absurd refusal
refused-bad_format format Memory refusal place = absurd refusal

-- ---- the format is run

-- a run from a state to another
abbrev pub Runs : List ℕ → MachineState → Result (Unit {0}) ParamError → MachineState → Type 0
Runs format before result after = (t : FormatTree) → IsTree format t → HasOutcome result after (meaning t before)

pub run-bad_format : {T : Type 0} (format : List ℕ) (before after : MachineState) (e : ParamError) → stuck_place format ≡ None
    → Runs format before (Err e) after →
    (place : ℕ) → IsErrOf {T = T} {E = ParamError} (Err e) (BadFormat place) ↔ IsStuck format place
run-bad_format format before after e none runs place = (
  λ is. let same : e ≡ BadFormat place =
      cc is in absurd (subst (λ f. HasOutcome (Err f) after (meaning (tree_of format) before)) same (runs (tree_of format) (whole format none))),
  λ stuck. absurd (cc (sym none ∙ ((is_computed format).stuck place).0 stuck)),
)

pub run-stack_full : {T : Type 0} (format : List ℕ) (parameters : List FormatArgument) (statics : List ℤ) (before after : MachineState) (e : ParamError) →
    stuck_place format ≡ None → before ≡ start parameters statics → Runs format before (Err e) after →
    (place : ℕ) → IsErrOf {T = T} {E = ParamError} (Err e) (StackFull place) → Overflows format parameters statics place
run-stack_full format parameters statics before after e none begins runs place is =
    let same : e ≡ StackFull place = cc is in
    record {
      tree = tree_of format;
      is_tree = whole format none;
      runs = ap (meaning (tree_of format)) (sym begins)
          ∙ subst (λ f. HasOutcome (Err f) after (meaning (tree_of format) before)) same (runs (tree_of format) (whole format none));
    }

pub run-memory : (format : List ℕ) → stuck_place format ≡ None → (t : FormatTree) × IsTree format t
run-memory format none = (tree_of format, whole format none)

pub done-expands : (format : List ℕ) (parameters : List FormatArgument) (statics : List ℤ) (before final : MachineState) (output : List ℕ) (after : List ℤ) →
    stuck_place format ≡ None → before ≡ start parameters statics → Runs format before (Ok tt) final → output ≡ final.output → after ≡ final.statics →
    Expands format parameters statics output after
done-expands format parameters statics before final output after none begins runs output_is statics_are = record {
  tree = tree_of format;
  is_tree = whole format none;
  final = final;
  runs = ap (meaning (tree_of format)) (sym begins) ∙ runs (tree_of format) (whole format none);
  output_is = output_is;
  statics_are = statics_are;
}

pub done-bad_format : {T : Type 0} (format : List ℕ) (x : T) → stuck_place format ≡ None →
    (place : ℕ) → IsErrOf {T = T} {E = ParamError} (Ok x) (BadFormat place) ↔ IsStuck format place
done-bad_format format x none place =
    (λ is. absurd (cc is), λ stuck. absurd (cc (sym none ∙ ((is_computed format).stuck place).0 stuck)))
