-- the method is none of those that ask about a document
use Rattle.std.proofs.Common.{◌≡◌, ℕ, Bool, true, false, List, refl}
use Rattle.std.specs.Bool.{Decides}
use Rattle.std.specs.Str.{bytes_eq}
use Rattle.std.proofs.lemmas.Slice.Eq.{bytes_eq-Decides}
use Rattle.lsp_messages.proofs.asking.topic_of.Goals as goal

not_so : (b : Bool) (Q : Type 0) → Decides b Q → (Q → ⊥) → b ≡ false
not_so true Q decides differ = absurd (differ (decides.0 refl))
not_so false Q decides differ = refl

other : (method name : List ℕ) → (method ≡ name → ⊥) → bytes_eq method name ≡ false
other method name differ = not_so (bytes_eq method name) (method ≡ name) (bytes_eq-Decides method name) differ

pub returns-in_default : goal.returns-in_default
returns-in_default c =
    let none = c.in_default in
    let m = c.args.method.now in
    rw (other m _ none.not-text, other m _ none.not-text-2, other m _ none.not-text-3, other m _ none.not-text-4, other m _ none.not-text-5)
    (rw (other m _ none.not-text-6, other m _ none.not-text-7, other m _ none.not-text-8, other m _ none.not-text-9)
    (rw (other m _ none.not-text-10, other m _ none.not-text-11, other m _ none.not-text-12, other m _ none.not-text-13) refl))
