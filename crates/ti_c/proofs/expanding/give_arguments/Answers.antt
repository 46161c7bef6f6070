use Rattle.std.proofs.Common.{◌≡◌, ◌≤◌, ◌<◌, ℕ, zero, suc, pos, inl, inr, List, [], length, map, get_or, option_map, unwrap_or, refl, sym, ap, ◌∙◌, arith}
use Rattle.std.proofs.lemmas.Bool.{cases_eq, cases_lt}
use Rattle.std.proofs.lemmas.List.{ext_get_or, get_or-set_other, get_or-set_same, length-map, length-set, map-set}
use Rattle.std.proofs.lemmas.Option.{slice_get-get_or, slice_get_past}
use Rattle.ti_param.specs.Meaning.{FormatArgument, argument_of, number}
use Rattle.ti_c.specs.Expanding.{argument_at, arguments_of, given_argument}
use Rattle.ti_c.specs.declared.expanding.Parameter.{Parameter}
use Rattle.ti_c.proofs.expanding.give_arguments.Goals as goal

-- each of the nine is the parameter at its place
each : (params : List Parameter) (at : ℕ) → at < 9 → get_or (arguments_of params) at (number (pos 0)) ≡ argument_at params at
unfolding arguments_of
each params zero within = refl
each params (suc zero) within = refl
each params (suc (suc zero)) within = refl
each params (suc (suc (suc zero))) within = refl
each params (suc (suc (suc (suc zero)))) within = refl
each params (suc (suc (suc (suc (suc zero))))) within = refl
each params (suc (suc (suc (suc (suc (suc zero)))))) within = refl
each params (suc (suc (suc (suc (suc (suc (suc zero))))))) within = refl
each params (suc (suc (suc (suc (suc (suc (suc (suc zero)))))))) within = refl
each params (suc (suc (suc (suc (suc (suc (suc (suc (suc at))))))))) within = absurd (omega arith)

-- past those given it is the number 0
none : (params : List Parameter) (at : ℕ) → length params ≤ at → argument_at params at ≡ number (pos 0)
none params at past = ap (λ p. unwrap_or (option_map given_argument p) (number (pos 0))) (slice_get_past params at past)

-- what is given at a place
there : (params : List Parameter) (at : ℕ) (d : Parameter) → at < length params → given_argument (get_or params at d) ≡ argument_at params at
there params at d within = sym (ap (λ p. unwrap_or (option_map given_argument p) (number (pos 0))) (slice_get-get_or params at d within))

pub loop-place-init : goal.loop-place-init
unfolding arguments_of
loop-place-init c =
    let none_given : length (map argument_of c.args.values.now) ≡ 9 = ap length c.requires in
    record {
      nine = sym (length-map c.args.values.now argument_of) ∙ none_given;
      given = λ at below. absurd (omega arith);
      others = λ at from below. ap (λ (xs : List FormatArgument). get_or xs at (number (pos 0))) c.requires ∙ each [] at below ∙ none [] at (omega arith);
    }

pub loop-place-preserved : goal.loop-place-preserved
loop-place-preserved c =
    let zero_number = number (pos 0) in
    let params = c.args.params.now in
    let values = c.loop-place.values in
    let place = c.loop-place.place in
    let nine = c.loop-place.invariant.nine in
    let all : length (map argument_of values) ≡ 9 = length-map values argument_of ∙ nine in
    let read = λ (at : ℕ). ap (λ (xs : List FormatArgument). get_or xs at zero_number) (map-set argument_of values place c.value_of.result) in
    record {
      nine = length-set values place c.value_of.result ∙ nine;
      given = λ at below.
          elim (cases_eq at place) [
            | inl same ↦
                rw same (read place ∙ get_or-set_same (map argument_of values) place _ zero_number (omega arith) ∙ c.value_of.ensures
                ∙ there params place _ (omega arith))
            | inr other ↦ read at ∙ get_or-set_other (map argument_of values) place at _ zero_number other ∙ c.loop-place.invariant.given at (omega arith)
          ];
      others = λ at from below. read at ∙ get_or-set_other (map argument_of values) place at _ zero_number (omega arith)
          ∙ c.loop-place.invariant.others at (omega arith) below;
    }

pub returns : goal.returns
unfolding arguments_of
returns c =
    let params = c.args.params.now in
    let values = map argument_of c.loop-place.values in
    let nine : length values ≡ 9 = length-map c.loop-place.values argument_of ∙ c.loop-place.invariant.nine in
    ext_get_or (number (pos 0)) values (arguments_of params) nine (λ at within.
    elim (cases_lt at c.loop-place.place) [
      | inl below ↦ c.loop-place.invariant.given at below ∙ sym (each params at (omega arith))
      | inr past ↦ c.loop-place.invariant.others at past (omega arith) ∙ sym (each params at (omega arith) ∙ none params at (omega arith))
    ])
