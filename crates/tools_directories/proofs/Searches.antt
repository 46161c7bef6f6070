-- Searches at one path after another.
use Rattle.std.specs.Option.{option_or}
use Rattle.std.proofs.Common.{◌≡◌, ℕ, suc, ◌+◌, ◌<◌, List, [], ◌∷◌, ◌++◌, drop, get_or, length, map, take, Option, Some, None, refl, ap, subst, arith}
use Rattle.std.specs.Prelude.{option_map}
use Rattle.std.proofs.lemmas.List.{drop_more}
use Rattle.tools_devices.specs.Tree.{FileAt, Files, FindsFile}
use Rattle.tools_directories.specs.Finding.{Finds, HasFailed, Searches, first_at, front_size, FindsTheFirst, LettersComeFirst, no_path, there, absent, failed}

here : (path bytes : List ℕ) (o : Option (List ℕ)) (later : Option FileAt) → Some bytes ≡ option_map (take front_size) o
    → Some (path, bytes) ≡ option_or (option_map (λ b. (path, take front_size b)) o) later
here path bytes None later e = absurd (cc e)
here path bytes (Some b) later e = let same : bytes ≡ take front_size b = cc e in ap (λ x. Some (path, x)) same

passed : (path : List ℕ) (o : Option (List ℕ)) (file later : Option FileAt) → None ≡ option_map (take front_size) o → file ≡ later
    → file ≡ option_or (option_map (λ b. (path, take front_size b)) o) later
passed path None file later e is = is
passed path (Some b) file later e is = absurd (cc e)

quiet : (files : Files) (paths : List (List ℕ)) (n : ℕ) (file : Option FileAt) → Searches (Some files) paths n file → n ≡ 0 → file ≡ first_at files paths
quiet files _ _ _ no_path z = refl
quiet files _ _ _ (there {path} {bytes} {paths} e) z = here path bytes (files path) (first_at files paths) e
quiet files _ _ _ (absent {path} {paths} {failures} {file} e later) z =
    passed path (files path) file (first_at files paths) e (quiet files paths failures file later z)
quiet files _ _ _ (failed later) z = absurd (cc z)

pub finds_the_first : FindsTheFirst
finds_the_first files paths file h = quiet files paths 0 file h refl

-- ---- one path after another

-- a path with a file
pub Finds-here : (files : Option Files) (path bytes : List ℕ) (paths : List (List ℕ)) (now new : ℕ) → FindsFile path front_size files (Some bytes)
    → new ≡ now + 0
    → Finds files (path ∷ paths) now new (Some (path, bytes))
Finds-here files path bytes paths now new e same = (0, same, there e)

-- a path without one
pub Finds-absent : (files : Option Files) (path : List ℕ) (paths : List (List ℕ)) (now new after : ℕ) (file : Option FileAt)
    → FindsFile path front_size files None → new ≡ now + 0 → Finds files paths new after file → Finds files (path ∷ paths) now after file
Finds-absent files path paths now new after file e same h = let k = h.0 in let is : after ≡ new + k = h.1 in (k, omega arith, absent e h.2)

-- a path whose read failed
pub Finds-failed : (files : Option Files) (path : List ℕ) (paths : List (List ℕ)) (now new after : ℕ) (file : Option FileAt)
    → new ≡ now + 1 → Finds files paths new after file → Finds files (path ∷ paths) now after file
Finds-failed files path paths now new after file same h = let k = h.0 in let is : after ≡ new + k = h.1 in (suc k, omega arith, failed h.2)

-- no path is left
pub Finds-none : (files : Option Files) (now : ℕ) → Finds files [] now now None
Finds-none files now = (0, omega arith, no_path)

-- some failures more
pub HasFailed-more : (before now new n : ℕ) → HasFailed before now → new ≡ now + n → HasFailed before new
HasFailed-more before now new n h same = let k = h.0 in let is : now ≡ before + k = h.1 in (k + n, omega arith)

-- the paths from one on
pub paths-from : {X : Type 0} (f : X → List ℕ) (xs : List X) (i : ℕ) (x : X) → i < length xs → x ≡ get_or xs i x
    → map f (drop i xs) ≡ f x ∷ map f (drop (i + 1) xs)
paths-from f xs i x low is = rw (drop_more xs i x low, ← is) refl

-- ---- one list of paths after another

-- no file at the first ones
skipped : (files : Option Files) (first second : List (List ℕ)) (n k m : ℕ) (file : Option FileAt) → m ≡ n + k → Searches files first n None
    → Searches files second k file → Searches files (first ++ second) m file
skipped files _ second _ k m file same no_path h = let is : k ≡ m = omega arith in subst (λ j. Searches files second j file) is h
skipped files _ second n k m file same (absent {path} {paths} e later) h = absent e (skipped files paths second n k m file same later h)
skipped files _ second _ k m file same (failed {path} {paths} {failures} later) h =
    let is : suc (failures + k) ≡ m = omega arith in
    subst (λ j. Searches files (path ∷ (paths ++ second)) j file) is (failed (skipped files paths second failures k (failures + k) file refl later h))

pub Finds-later : (files : Option Files) (first second : List (List ℕ)) (now new after : ℕ) (file : Option FileAt) → Finds files first now new None
    → Finds files second new after file → Finds files (first ++ second) now after file
Finds-later files first second now new after file h g =
    let n = h.0 in let k = g.0 in let is : new ≡ now + n = h.1 in let at : after ≡ new + k = g.1 in
    (n + k, omega arith, skipped files first second n k (n + k) file refl h.2 g.2)

-- a file at one of the first ones
reached : (files : Option Files) (first second : List (List ℕ)) (n : ℕ) (file : FileAt) → Searches files first n (Some file)
    → Searches files (first ++ second) n (Some file)
reached files _ second _ _ (there e) = there e
reached files _ second n file (absent {path} {paths} e later) = absent e (reached files paths second n file later)
reached files _ second _ file (failed {path} {paths} {failures} later) = failed (reached files paths second failures file later)

pub Finds-first : (files : Option Files) (first second : List (List ℕ)) (now after : ℕ) (file : FileAt) → Finds files first now after (Some file)
    → Finds files (first ++ second) now after (Some file)
Finds-first files first second now after file h = (h.0, h.1, reached files first second h.0 file h.2)

-- the first of all is the first of the first ones, if there is one
first_more : (o : Option (List ℕ)) (path : List ℕ) (before after : Option FileAt) (file : FileAt) → (before ≡ Some file → after ≡ Some file)
    → option_or (option_map (λ b. (path, take front_size b)) o) before ≡ Some file
    → option_or (option_map (λ b. (path, take front_size b)) o) after ≡ Some file
first_more None path before after file same e = same e
first_more (Some b) path before after file same e = e

first_of_both : (files : Files) (first second : List (List ℕ)) (file : FileAt) → first_at files first ≡ Some file → first_at files (first ++ second) ≡ Some file
first_of_both files [] second file e = absurd (cc e)
first_of_both files (path ∷ paths) second file e =
    first_more (files path) path (first_at files paths) (first_at files (paths ++ second)) file (first_of_both files paths second file) e

pub letters_come_first : LettersComeFirst
letters_come_first files name directories file e = first_of_both files _ _ file e
