use Rattle.std.proofs.Common.{◌≡◌, ◌∷◌, ◌++◌, append_assoc, codes, Option, Some, None, refl, ap, ◌∙◌, List, [], ℕ}
use Rattle.std.specs.Fmt.{decimal}
use Rattle.std.specs.Option.{option_map}
use Rattle.std.specs.Rc.{rc_slice_items}
use Rattle.std.proofs.lemmas.List.{append-nil}
use Rattle.ti_source.specs.Code.{code_text}
use Rattle.base_meaning.specs.Report.{detail_text}
use Rattle.ti_base.proofs.report.write_fault.Goals as goal
use Rattle.ti_base.proofs.report.write_fault.Goals.{in-Some+in_ok-push+in_ok-write_detail, in_default}

no_detail : {X : Type 0} (bytes : X → List ℕ) (detail : Option X) → ((x : X) → detail ≡ Some x → ⊥) → detail_text (option_map bytes detail) ≡ []
no_detail bytes None h = refl
no_detail bytes (Some x) h = absurd (h x refl)

-- the parts of the line are appended in turn
in_turn : (old number code detail a b c d e : List ℕ) → a ≡ old ++ number → b ≡ a ++ codes ": " → c ≡ b ++ code → d ≡ c ++ detail → e ≡ d ++ 10 ∷ []
    → e ≡ old ++ (number ++ codes ": " ++ code ++ detail ++ 10 ∷ [])
in_turn old number code detail a b c d e f g h i j = rw (j, i, h, g, f) (simp append_assoc)

pub returns : goal.returns
returns c =
    let old = c.args.out.now.items in
    let detail = detail_text (option_map rc_slice_items c.args.fault.now.detail) in
    let told : c.match-fault.out.items ≡ c.write_code.new.out.items ++ detail = elim c.match-fault.branch [
      | in-Some+in_ok-push+in_ok-write_detail w ↦ rw (
        w.out-is,
        w.in_ok-write_detail.ensures,
        w.in_ok-push.ensures.items,
        w.as_slice.ensures.value,
        w.in-Some.is,
        append_assoc,
      ) refl
      | in_default w ↦ rw (w.out-is, no_detail rc_slice_items c.args.fault.now.detail (λ x e. w.in_default.not-Some x e), append-nil) refl
    ] in
    in_turn old (decimal c.args.number) (code_text c.args.fault.now.code) detail c.extend_from_slice.new.self.items c.extend_from_slice-2.new.self.items
    c.write_code.new.out.items c.match-fault.out.items c.push-2.new.self.items
    (c.in_ok-extend_from_slice.ensures.items ∙ ap (λ digits. old ++ digits) (c.as_bytes.ensures.value ∙ c.in_ok-digits.ensures.ok))
    c.in_ok-extend_from_slice-2.ensures.items c.in_ok-write_code.ensures told c.in_ok-push-2.ensures.items
