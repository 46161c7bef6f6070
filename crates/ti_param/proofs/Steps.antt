-- One token more, for a part that is skipped.
use Rattle.std.proofs.Common.{◌≡◌, ℕ, zero, suc, ◌+◌, ◌≤◌, Bool, true, false, List, [], ◌∷◌, refl, arith}
use Rattle.std.specs.Prelude.{Some, None}
use Rattle.ti_formats.specs.declared.codes.Token.{Token}
use Rattle.ti_formats.specs.declared.codes.Token.TheVariants.{Literal, Operation, If, Then, Else, EndIf}
use Rattle.ti_formats.specs.declared.codes.Placed.{Placed}
use Rattle.ti_param.specs.inside.Skipping.{level_after, after_part}

pub after_part-go : (level next : ℕ) (to_else : Bool) (tokens rest : List Placed) (p : Placed) → tokens ≡ p ∷ rest →
    level_after level to_else p.token ≡ Some next → after_part level to_else tokens ≡ after_part next to_else rest
unfolding after_part
after_part-go level next to_else tokens rest p is step = rw is (rw (step, after_part) refl)

pub after_part-here : (level : ℕ) (to_else : Bool) (tokens rest : List Placed) (p : Placed) → tokens ≡ p ∷ rest →
    level_after level to_else p.token ≡ None → after_part level to_else tokens ≡ rest
unfolding after_part
after_part-here level to_else tokens rest p is step = rw is (rw (step, after_part) refl)

pub after_part-end : (level : ℕ) (to_else : Bool) (tokens : List Placed) → tokens ≡ [] → after_part level to_else tokens ≡ []
unfolding after_part
after_part-end level to_else tokens is = rw is refl

-- a token opens at most one more conditional
pub level_after-le : (level next : ℕ) (to_else : Bool) (token : Token) → level_after level to_else token ≡ Some next → next ≤ level + 1
level_after-le level next to_else (Literal b) h = let e : level ≡ next = cc h in omega arith
level_after-le level next to_else (Operation c) h = let e : level ≡ next = cc h in omega arith
level_after-le level next to_else If h = let e : suc level ≡ next = cc h in omega arith
level_after-le level next to_else Then h = let e : level ≡ next = cc h in omega arith
level_after-le zero next true Else h = absurd (cc h)
level_after-le zero next false Else h = let e : zero ≡ next = cc h in omega arith
level_after-le (suc level) next to_else Else h = let e : suc level ≡ next = cc h in omega arith
level_after-le zero next to_else EndIf h = absurd (cc h)
level_after-le (suc level) next to_else EndIf h = let e : level ≡ next = cc h in omega arith
