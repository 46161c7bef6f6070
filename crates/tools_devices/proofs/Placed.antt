-- What one more file that is written adds to the files that were written before it.
use Rattle.std.proofs.Common.{◌≡◌, ℕ, ◌+◌, ◌<◌, List, [], ◌∷◌, ◌++◌, Option, length, map, suc, take, drop, get_or, refl, subst}
use Rattle.std.proofs.Math.Seq.{drop-cons}
use Rattle.std.proofs.lemmas.List.{drop-map, map_more, take-map}
use Rattle.tools_devices.specs.Placing.{entries, placed_entry}
use Rattle.tools_devices.specs.Tree.{ChangesOnly, FileAt, Files, Sets, Writes, WritesUpTo}
use Rattle.tools_devices.specs.declared.placing.File.{File}

pub Writes-push : (before : List FileAt) (entry : FileAt) (old mid new : Option Files)
    → Writes before old mid → Sets entry mid new → Writes (before ++ entry ∷ []) old new
Writes-push [] entry old mid new same sets =
    (new, subst (λ (from : Option Files). Sets entry from new) same sets, refl)
Writes-push (e ∷ before) entry old mid new written sets =
    (written.0, written.1, Writes-push before entry written.0 mid new written.2 sets)

pub Writes-next : (files : List File) (count : ℕ) (file : File) (old mid new : Option Files)
    → count < length files → file ≡ get_or files count file
    → Writes (take count (entries files)) old mid → Sets (placed_entry file) mid new
    → Writes (take (count + 1) (entries files)) old new
Writes-next files count file old mid new within is_file written sets =
    let front : take (count + 1) (entries files) ≡ take count (entries files) ++ placed_entry file ∷ [] =
    rw (take-map placed_entry (count + 1) files, map_more placed_entry files count file within, ← is_file, take-map placed_entry count files) in
    rw front (Writes-push _ (placed_entry file) old mid new written sets)

pub Writes-stop : (files : List File) (count : ℕ) (file : File) (old mid new : Option Files)
    → count < length files → file ≡ get_or files count file
    → Writes (take count (entries files)) old mid → ChangesOnly (placed_entry file).0 mid new
    → WritesUpTo count (entries files) old new
Writes-stop files count file old mid new within is_file written changes =
    let rest : drop count (entries files) ≡ placed_entry file ∷ map placed_entry (drop (suc count) files) =
    rw (drop-map placed_entry count files, drop-cons files count file within, ← is_file) in
    (mid, placed_entry file, _, rest, written, changes)
