use Rattle.std.proofs.Common.{◌≡◌, ◌++◌, ℕ, List, [], ◌∷◌, None, Some, refl, sym, ap, ◌∙◌}
use Rattle.std.proofs.lemmas.Bool.{eq-eqb, false_from_ne_true}
use Rattle.std.proofs.lemmas.Bool.Decides.{Decides-eqb}
use Rattle.std.proofs.lemmas.Slice.Eq.{bytes_eq-Decides, strip_prefix_is}
use Rattle.std.specs.Str.{bytes_eq}
use Rattle.source_descriptions.proofs.user_rows.is_joined.Goals as goal

-- the same front may be left out of both
past : (front xs ys : List ℕ) → bytes_eq (front ++ xs) (front ++ ys) ≡ bytes_eq xs ys
past [] xs ys = refl
past (x ∷ front) xs ys = rw (eq-eqb x x refl) (past front xs ys)

pub returns-in-Some : goal.returns-in-Some
returns-in-Some c =
    let key = c.args.key.now in
    let rest = c.in-Some.rest.now in
    let modifiers = c.args.modifiers.now in
    let cut : c.args.name.now ≡ c.as_bytes.result.now ++ rest =
    strip_prefix_is Decides-eqb c.args.name.now c.as_bytes.result.now (Some c.in-Some.rest) c.in-Some.ensures.cases in
    let name : c.args.name.now ≡ key ++ rest = cut ∙ ap (λ (xs : List ℕ). xs ++ rest) c.as_bytes.ensures.value in
    c.eq.ensures ∙ ap (λ (xs : List ℕ). bytes_eq xs rest) c.as_bytes-in-Some.ensures.value
    ∙ sym (ap (bytes_eq (key ++ modifiers)) name ∙ past key modifiers rest)

pub returns-in-None : goal.returns-in-None
returns-in-None c =
    let key = c.as_bytes.result.now in
    let modifiers = c.args.modifiers.now in
    let other = strip_prefix_is Decides-eqb c.args.name.now key None c.in-None.ensures.cases in
    sym (false_from_ne_true (bytes_eq (c.args.key.now ++ modifiers) c.args.name.now)
    (λ same. other modifiers (sym ((bytes_eq-Decides (c.args.key.now ++ modifiers) c.args.name.now).0 same)
    ∙ ap (λ (xs : List ℕ). xs ++ modifiers) (sym c.as_bytes.ensures.value))))
