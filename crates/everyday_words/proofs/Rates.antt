-- What `parse` of a number without sign reads, as the rate of a line.
use Rattle.std.proofs.Common.{◌≡◌, ℕ, ◌^◌, Bool, true, false, cond, List, length, Some, None, Result, Ok, Err, refl, sym, ap}
use Rattle.std.specs.Bool.{Decides}
use Rattle.std.specs.Result.{OkIff, result_ok}
use Rattle.std.specs.Str.{all_ascii_digits}
use Rattle.std.specs.Str.Parse.{ParsesUnsigned, digits_value, without_leading_plus}
use Rattle.std.proofs.lemmas.Bool.{true≢false}
use Rattle.std.proofs.lemmas.Bool.Decides.{Decides-and, Decides-like, Decides-ltb}
use Rattle.std.proofs.lemmas.Str.Parse.{IsNumeralModel, numerals_by_value, tells_all_ascii_digits}
use Rattle.tools_commands.specs.Arguments.{spelled_rate}

own : IsNumeralModel (λ ds. all_ascii_digits ds ≡ true) (digits_value 10)
own = numerals_by_value _ tells_all_ascii_digits

-- an answer that is there exactly if a test passes
ok_when : {E : Type 0} (r : Result ℕ E) (b : Bool) (Q : Type 0) (x : ℕ) → Decides b Q → OkIff r Q x → result_ok r ≡ cond b (Some x) None
ok_when (Ok y) true Q x d h = ap Some h.1
ok_when (Ok y) false Q x d h = absurd (true≢false (sym (d.1 h.0)))
ok_when (Err e) true Q x d h = absurd (h (d.0 refl))
ok_when (Err e) false Q x d h = refl

pub spelled_rate-parse : {E : Type 0} (text : List ℕ) (r : Result ℕ E) → ParsesUnsigned 32 10 text r → result_ok r ≡ spelled_rate text
unfolding spelled_rate
spelled_rate-parse text r h =
    let digits = without_leading_plus text in
    ok_when r _ _ _
    (Decides-like _ (λ h. ((h.0.0, own.to digits h.0.1), h.1)) (λ h. ((h.0.0, own.from digits h.0.1), h.1))
    (Decides-and _ _ (Decides-and _ _ (Decides-ltb 0 (length digits)) (λ e. e, λ e. e)) (Decides-ltb (digits_value 10 digits) (2 ^ 32)))) h
