-- The bytes of user-defined names.
use Rattle.std.proofs.Common.{◌≡◌, ◌≢◌, ℕ, Bool, true, false, not, ◌==◌, ◌&&◌, List, [], ◌∷◌, length, refl, subst}
use Rattle.std.specs.List.{list_all, AllByRecursion}
use Rattle.std.specs.Prelude.{codes, is_none}
use Rattle.std.specs.Str.{bytes_eq}
use Rattle.std.proofs.lemmas.List.Elements.{All-from_recursion}
use Rattle.ti_caps.specs.Tables.{capability_named}
use Rattle.user_items.specs.Names.{is_user_defined_byte, is_user_defined_name}
use Rattle.user_items.specs.Laws.{UserDefinedNamesHaveNoNul}

and_left : (a b : Bool) → (a && b) ≡ true → a ≡ true
and_left true b e = refl
and_left false b e = absurd (cc)

and_right : (a b : Bool) → (a && b) ≡ true → b ≡ true
and_right true b e = e
and_right false b e = absurd (cc)

each_byte : (name : List ℕ) → list_all is_user_defined_byte name ≡ true → AllByRecursion (λ (b : ℕ). b ≢ 0) name
each_byte [] e = tt
each_byte (b ∷ bs) e = (
  λ z. let never : false ≡ true =
      subst (λ (x : ℕ). is_user_defined_byte x ≡ true) z (and_left (is_user_defined_byte b) (list_all is_user_defined_byte bs) e) in absurd cc,
  each_byte bs (and_right (is_user_defined_byte b) (list_all is_user_defined_byte bs) e),
)

pub names_have_no_nul : UserDefinedNamesHaveNoNul
unfolding is_user_defined_name
names_have_no_nul name e =
    All-from_recursion (λ (b : ℕ). b ≢ 0) name (each_byte name
    (and_left (list_all is_user_defined_byte name) (not (bytes_eq name (codes "use")) && is_none (capability_named name))
    (and_right (not (length name == 0)) (list_all is_user_defined_byte name && (not (bytes_eq name (codes "use")) && is_none (capability_named name))) e)))
