-- A text that is sought in a name, from each byte of it on.
use Rattle.std.proofs.Common.{◌≡◌, ℕ, ◌+◌, ◌<◌, ◌≤◌, ◌==◌, ◌&&◌, ◌||◌, Bool, false, List, [], ◌∷◌, drop, get_or, length, refl, sym, ap, ◌∙◌, arith}
use Rattle.std.specs.Char.{to_ascii_lowercase}
use Rattle.std.proofs.Math.Bool.{and-false}
use Rattle.std.proofs.lemmas.Bool.{ne_eqb}
use Rattle.std.proofs.lemmas.List.{drop_all, drop_more}
use Rattle.server_answers.specs.Searching.{begins_alike, holds}

pub begins_short : (held text : List ℕ) → length text < length held → begins_alike held text ≡ false
begins_short [] text short = absurd (omega (arith, short))
begins_short (x ∷ xs) [] short = refl
begins_short (x ∷ xs) (y ∷ ys) short =
    ap (λ (b : Bool). to_ascii_lowercase y == to_ascii_lowercase x && b) (begins_short xs ys (omega (arith, short)))
    ∙ and-false (to_ascii_lowercase y == to_ascii_lowercase x)

pub holds_next : (held name : List ℕ) (at : ℕ) (here whole : Bool) → at < length name → here ≡ begins_alike held (drop at name) → here ≡ false
    → holds held (drop at name) ≡ whole → holds held (drop (at + 1) name) ≡ whole
holds_next held name at here whole less is other so =
    let more = drop_more name at 0 less in
    let none : begins_alike held (get_or name at 0 ∷ drop (at + 1) name) ≡ false = ap (begins_alike held) (sym more) ∙ sym is ∙ other in
    sym (ap (λ (b : Bool). b || holds held (drop (at + 1) name)) none) ∙ sym (ap (holds held) more) ∙ so

empty_begins : (held : List ℕ) → (length held == 0) ≡ begins_alike held []
empty_begins [] = refl
empty_begins (x ∷ xs) = ne_eqb (length (x ∷ xs)) 0 (λ e. absurd (omega arith))

pub holds_end : (held name : List ℕ) (at : ℕ) → length name ≤ at → holds held (drop at name) ≡ holds held name → (length held == 0) ≡ holds held name
holds_end held name at past so = empty_begins held ∙ ap (holds held) (sym (drop_all at name past)) ∙ so
