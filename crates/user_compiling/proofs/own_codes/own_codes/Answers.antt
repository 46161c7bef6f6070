use Rattle.std.proofs.Common.{inl, inr, ◌≡◌, ◌∙◌, List, [], ◌∷◌, length, map, refl, sym, ap, arith}
use Rattle.ti_source.specs.Reading.{Reading, ReadFault, fault_of}
use Rattle.ti_source.specs.Parsing.{reading_of_text}
use Rattle.user_extension.proofs.Entry.{none}
use Rattle.user_items.specs.Reading.{ReadUserFault, UserBlock, user_fault_of}
use Rattle.user_items.specs.Parsing.{user_reading_of_text}
use Rattle.user_items.specs.declared.reading.UserFault.{UserFault}
use Rattle.user_compiling.specs.inside.Pairs.{pairs, warning_ordinals}
use Rattle.user_compiling.proofs.Pairs.{pairs_are_codes}
use Rattle.user_compiling.proofs.own_codes.own_codes.Goals as goal

no_faults : (fs : List UserFault) → length fs ≡ 0 → map user_fault_of fs ≡ []
no_faults [] none = refl
no_faults (f ∷ fs) none = absurd (omega (arith, none))

pub returns-then-is_empty : goal.returns-then-is_empty
returns-then-is_empty c =
    let text = c.args.text.now in
    let empty = none _ c.if-is_empty.ensures in
    let few : length c.in_ok-read.read.faults.items ≡ 0 = omega (arith, empty, c.in_ok-read.read.faults.ok.0) in
    let quiet : (user_reading_of_text text).faults ≡ [] =
    ap (λ (r : UserBlock). r.faults) (sym c.in_ok-read.ensures.computed) ∙ no_faults c.in_ok-read.read.faults.items few in
    inr (c.new.ensures.items, quiet)

pub returns : goal.returns
returns c =
    let text = c.args.text.now in
    let locals : map fault_of c.deref.result.now ≡ (reading_of_text text).faults =
    ap (map fault_of) c.deref.ensures.value ∙ ap (λ (r : Reading). r.faults) c.in_ok-parsed.ensures.computed in
    let own : map user_fault_of c.deref-2.result.now ≡ (user_reading_of_text text).faults =
    ap (map user_fault_of) c.deref-2.ensures.value ∙ ap (λ (r : UserBlock). r.faults) c.in_ok-read.ensures.computed in
    inl (c.in_ok-codes.ensures
    ∙ ap (λ (gs : List ReadFault). pairs (warning_ordinals gs) (map user_fault_of c.deref-2.result.now)) locals
    ∙ ap (λ (us : List ReadUserFault). pairs (warning_ordinals (reading_of_text text).faults) us) own
    ∙ pairs_are_codes c.warnings_are_of_defining_items.ensures text)
