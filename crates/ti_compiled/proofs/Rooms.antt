-- What is known if room was made.
use Rattle.std.proofs.Common.{◌≡◌, ℕ, List, true, Result, Ok, Err, sym, subst}
use Rattle.std.specs.Prelude.{IfSome, OnOk, is_ok}
use Rattle.std.specs.Result.{result_ok}
use Rattle.ti_layout.specs.declared.writing.WriteError.{WriteError}
use Rattle.ti_compiled.specs.inside.Image.{IsImage}

pub when_ok : (r : Result (Unit {0}) WriteError) (P : Type 0) → is_ok r ≡ true → OnOk r P → P
when_ok (Ok x) P e h = h
when_ok (Err x) P e h = absurd cc

pub when_given : (r : Result (Unit {0}) WriteError) (P : Type 0) → OnOk r P → IfSome (result_ok r) (λ _. P)
when_given (Ok x) P p = p
when_given (Err x) P p = tt

-- what holds of bytes holds of the bytes that are lent to a call
pub image_again : (b x : List ℕ) → x ≡ b → IsImage b → IsImage x
image_again b x e image = subst IsImage (sym e) image
