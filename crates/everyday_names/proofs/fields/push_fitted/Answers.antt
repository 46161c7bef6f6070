use Rattle.std.proofs.Common.{◌≡◌, ◌∙◌, ◌++◌, ◌∷◌, List, ℕ, ap, arith, length, length-append, refl, subst, sym}
use Rattle.std.proofs.Common.{Err, Ok, Result, cond}
use Rattle.std.specs.Prelude.{OnOk}
use Rattle.std.specs.Result.{is_ok}
use Rattle.everyday_names.specs.Fields.{after_field, field_of, fitted, part_and_blanks}
use Rattle.everyday_names.proofs.Fitted.{HasLong, behind-field, has-long, has-none_long}
use Rattle.everyday_names.proofs.fields.push_fitted.Goals as goal

pub behind-requires : goal.behind-requires
behind-requires c =
    let h = has-long c.args.text.now c.in-Some.field.now (sym c.in-Some.ensures) in
    let size = ap length h.split ∙ length-append c.in-Some.field.now (44 ∷ after_field c.args.text.now) in
    omega (arith, size)

pub push_part-requires : goal.push_part-requires
push_part-requires c =
    let h = has-long c.args.text.now c.in-Some.field.now (sym c.in-Some.ensures) in
    let over = h.long.over in
    let size = ap length h.same in
    omega (arith, over, size)

extended : {T E : Type 0} (result : Result T E) (new old text : List ℕ) → new ≡ (cond (is_ok result) (old ++ text) old) → OnOk result (new ≡ old ++ text)
extended (Ok done) new old text e = e
extended (Err error) new old text e = tt

pub returns-in-None : goal.returns-in-None
returns-in-None c =
    rw (has-none_long c.args.text.now (sym c.in-None.ensures))
    (extended c.extend_from_slice.result c.extend_from_slice.new.self.items c.args.out.now.items c.args.text.now c.extend_from_slice.ensures.items)

pub returns-in-Some : goal.returns-in-Some
returns-in-Some c =
    let text = c.args.text.now in
    let field = c.in-Some.field.now in
    let h : HasLong text field = has-long text field (sym c.in-Some.ensures) in
    let whole : fitted text ≡ part_and_blanks (field_of text) (after_field text) = rw h.is refl in
    let same : part_and_blanks field c.behind.result.now ≡ fitted text =
    ap (λ (f : List ℕ). part_and_blanks f c.behind.result.now) h.same
    ∙ ap (part_and_blanks (field_of text)) (c.behind.ensures ∙ behind-field text field h) ∙ sym whole in
    subst (λ (s : List ℕ). OnOk c.push_part.result (c.push_part.new.out.items ≡ c.args.out.now.items ++ s)) same c.push_part.ensures
