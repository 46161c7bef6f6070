-- Looking for a file in one directory after another.
use Rattle.std.specs.Option.{option_or}
use Rattle.std.proofs.Common.{◌≡◌, ℕ, ◌+◌, ◌<◌, List, [], ◌∷◌, length, map, take, drop, get_or, Option, Some, None, refl}
use Rattle.std.specs.Prelude.{option_map}
use Rattle.std.proofs.lemmas.List.{drop_more}
use Rattle.tools_devices.specs.Paths.{path_of}
use Rattle.tools_devices.specs.Tree.{Files, FindsFile}
use Rattle.tools_devices.specs.Searching.{Finds, first_file}

at_some : (count : ℕ) (o later : Option (List ℕ)) (b : List ℕ) → Some b ≡ option_map (take count) o → Some b ≡ option_map (take count) (option_or o later)
at_some count None later b e = absurd (cc)
at_some count (Some x) later b e = e

at_none : (count : ℕ) (o later r : Option (List ℕ)) → None ≡ option_map (take count) o → r ≡ option_map (take count) later
    → r ≡ option_map (take count) (option_or o later)
at_none count None later r e is = is
at_none count (Some x) later r e is = absurd (cc)

-- a directory that has the file
pub Finds-here : (count : ℕ) (files : Option Files) (name directory : List ℕ) (directories : List (List ℕ)) (b : List ℕ)
    → FindsFile (path_of directory name) count files (Some b)
    → Finds count files name (directory ∷ directories) (Some b)
unfolding first_file
Finds-here count None name directory directories b e = tt
Finds-here count (Some files) name directory directories b e = at_some count (files (path_of directory name)) (first_file files name directories) b e

-- a directory that does not have it
pub Finds-later : (count : ℕ) (files : Option Files) (name directory : List ℕ) (directories : List (List ℕ)) (found : Option (List ℕ))
    → FindsFile (path_of directory name) count files None → Finds count files name directories found → Finds count files name (directory ∷ directories) found
unfolding first_file
Finds-later count None name directory directories found e is = tt
Finds-later count (Some files) name directory directories found e is =
    at_none count (files (path_of directory name)) (first_file files name directories) found e is

-- no directory is left
pub Finds-none : (count : ℕ) (files : Option Files) (name : List ℕ) → Finds count files name [] None
unfolding first_file
Finds-none count None name = tt
Finds-none count (Some files) name = refl

-- the directories from one on
pub directories-from : {X : Type 0} (f : X → List ℕ) (xs : List X) (i : ℕ) (x : X) → i < length xs → x ≡ get_or xs i x
    → map f (drop i xs) ≡ f x ∷ map f (drop (i + 1) xs)
directories-from f xs i x low is = rw (drop_more xs i x low, ← is) refl
