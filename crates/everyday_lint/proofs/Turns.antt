-- Files that are done one after another.
use Rattle.std.proofs.Common.{◌≡◌, ◌∙◌, ℕ, suc, ◌+◌, ◌<◌, List, [], ◌∷◌, ◌++◌, drop, get_or, length, map, take, Option}
use Rattle.std.proofs.Common.{Result, Ok, Err, ap, refl, sym, subst, inl, inr, append-nil, take-append-drop}
use Rattle.std.specs.Prelude.{OnErr}
use Rattle.std.proofs.Math.Seq.{drop-cons}
use Rattle.std.proofs.lemmas.List.{map-append, map_more}
use Rattle.std.specs.String.{string_bytes}
use Rattle.tools_devices.specs.Tree.{Files}
use Rattle.everyday_lint.specs.Fates.{LintsFile, LintsFiles, Stays, StopsAmong}
use Rattle.everyday_fmt.specs.Fates.{Held}
use Rattle.everyday_lint.specs.declared.files.Done.{Done}
use Rattle.everyday_lint.specs.declared.options.LintOptions.{LintOptions}

-- ---- files in turn

-- one more file
pub LintsFiles-push : (options : LintOptions) (paths : List (List ℕ)) (path : List ℕ) (before mid after : Held) (done : List Done) (last : Done)
    → LintsFiles options paths before mid done → string_bytes last.path ≡ path → LintsFile options path mid after last.fate
    → LintsFiles options (paths ++ path ∷ []) before after (done ++ last ∷ [])
LintsFiles-push options [] path before mid after [] last same named lints =
    (named, after, subst (λ (from : Held). LintsFile options path from after last.fate) same lints, refl)
LintsFiles-push options [] path before mid after (d ∷ done) last bad named lints = absurd bad
LintsFiles-push options (p ∷ paths) path before mid after [] last bad named lints = absurd bad
LintsFiles-push options (p ∷ paths) path before mid after (d ∷ done) last is named lints =
    (is.0, is.1, is.2, LintsFiles-push options paths path is.1 mid after done last is.3 named lints)

-- memory ran out between two files
pub StopsAmong-between : (options : LintOptions) (paths first others : List (List ℕ)) (before mid : Held) (done : List Done) → paths ≡ first ++ others
    → LintsFiles options first before mid done → StopsAmong options paths before mid.files
StopsAmong-between options paths first others before mid done parts lints = (first, others, done, mid, parts, lints, inl refl)

-- memory ran out at a file
pub StopsAmong-at : (options : LintOptions) (paths first : List (List ℕ)) (next : List ℕ) (rest : List (List ℕ)) (before mid : Held) (after : Option Files)
    (done : List Done) → paths ≡ first ++ next ∷ rest → LintsFiles options first before mid done → Stays options next mid.files after
    → StopsAmong options paths before after
StopsAmong-at options paths first next rest before mid after done parts lints stays =
    (first, next ∷ rest, done, mid, parts, lints, inr (next, rest, refl, stays))

-- memory ran out before the first file, or after the last
pub StopsAmong-none : (options : LintOptions) (paths : List (List ℕ)) (before : Held) → StopsAmong options paths before before.files
StopsAmong-none options paths before = ([], paths, [], before, refl, refl, inl refl)

pub StopsAmong-all : (options : LintOptions) (paths : List (List ℕ)) (before after : Held) (done : List Done) → LintsFiles options paths before after done
    → StopsAmong options paths before after.files
StopsAmong-all options paths before after done lints = (paths, [], done, after, sym (append-nil paths), lints, inl refl)

-- ---- files that are seen as their paths

module _ {X : Type 0} (see : X → List ℕ) (xs : List X) (i : ℕ) where
  -- those before a place, and the others
  pub parts_at : map see xs ≡ map see (take i xs) ++ map see (drop i xs)
  parts_at = ap (map see) (sym (take-append-drop i xs)) ∙ map-append see (take i xs) (drop i xs)

  -- those before a place, the one there, and the others
  pub parts_around : (x : X) → i < length xs → x ≡ get_or xs i x → map see xs ≡ map see (take i xs) ++ see x ∷ map see (drop (suc i) xs)
  parts_around x within is =
      let one : drop i xs ≡ x ∷ drop (suc i) xs = drop-cons xs i x within ∙ ap (λ (y : X). y ∷ drop (suc i) xs) (sym is) in
      parts_at ∙ ap (λ (ys : List X). map see (take i xs) ++ map see ys) one

  -- one more file
  pub LintsFiles-next : (options : LintOptions) (x : X) (before mid after : Held) (done : List Done) (last : Done) → i < length xs → x ≡ get_or xs i x
      → LintsFiles options (map see (take i xs)) before mid done → string_bytes last.path ≡ see x → LintsFile options (see x) mid after last.fate
      → LintsFiles options (map see (take (i + 1) xs)) before after (done ++ last ∷ [])
  LintsFiles-next options x before mid after done last within is so_far named lints =
      let front : map see (take (i + 1) xs) ≡ map see (take i xs) ++ see x ∷ [] =
      map_more see xs i x within ∙ ap (λ (y : X). map see (take i xs) ++ see y ∷ []) (sym is) in
      subst (λ (paths : List (List ℕ)). LintsFiles options paths before after (done ++ last ∷ [])) (sym front)
      (LintsFiles-push options (map see (take i xs)) (see x) before mid after done last so_far named lints)

-- what holds whatever the result is
pub on_err : {A E : Type 0} (r : Result A E) (P : Type 0) → P → OnErr r P
on_err (Ok x) P p = tt
on_err (Err e) P p = p
