-- The files of names, read one after another, and the entries that they are.
use Rattle.std.proofs.Common.{◌≡◌, ℕ, suc, ◌+◌, ◌<◌, ◌≤◌, Bool, true, false, List, [], ◌∷◌, ◌++◌, drop, get_or, length, map, Option, Some, None, refl, sym}
use Rattle.std.proofs.Common.{◌∙◌, ap, subst, inl, inr, append_assoc, append-nil, arith, ◌≢◌, if◌then◌else◌}
use Rattle.std.specs.Prelude.{Result, Ok, Err, nat_le, option_map, replicate, ◌-◌}
use Rattle.std.specs.Result.{is_err, is_ok}
use Rattle.std.proofs.lemmas.Bool.{leb-true}
use Rattle.std.proofs.lemmas.List.{drop_all, drop_more, length-append, length-replicate, map-append}
use Rattle.ti_layout.specs.View.{entry_seen}
use Rattle.ti_layout.specs.declared.view.View.{View}
use Rattle.ti_list.specs.RelativeSource.{entries_shown}
use Rattle.tools_commands.specs.declared.jobs.InfocmpMode.{InfocmpMode}
use Rattle.tools_commands.specs.declared.jobs.InfocmpMode.TheVariants as mode
use Rattle.tools_devices.specs.Tree.{Files}
use Rattle.user_listing.specs.Entries.{Extended, entries_in}
use Rattle.tools_directories.specs.declared.finding.Found.{Found}
use Rattle.everyday_entries.specs.Files.{AnswersEither, is_path}
use Rattle.everyday_entries.specs.Failures.{out_of_memory}
use Rattle.everyday_entries.specs.declared.failure.Failure.{Failure}
use Rattle.everyday_infocmp.specs.Entries.{AreEntries, IsBadFile, IsEntry, IsRefused, plain_entry}
use Rattle.everyday_infocmp.specs.Names.{all_names, least_names}
use Rattle.everyday_infocmp.specs.Reading.{GivesFiles, directories_for, GivesSought, ReadsFiles, Sought, sought, sought_names, no_name, read, missed}

-- ---- reading

-- a name whose file was read, and what comes of the names after it
pub GivesFiles-read : (files : Option Files) (name : List ℕ) (directories : List (List ℕ)) (names : List Sought) (before now after : ℕ) (found : Found)
    (later : List Found) (stop : Option Failure) → GivesSought files name directories before now (Ok found)
    → GivesFiles files names now after later stop → GivesFiles files (sought name directories ∷ names) before after (found ∷ later) stop
GivesFiles-read files name directories names before now after found later stop one h =
    let n = one.0 in
    let m = h.0 in
    let first : now ≡ before + n = one.1 in
    let rest : after ≡ now + m = h.1 in (n + m, omega arith, read n m one.2 h.2)

-- a name whose file cannot be had
pub GivesFiles-missed : (files : Option Files) (name : List ℕ) (directories : List (List ℕ)) (names : List Sought) (before after : ℕ) (failure : Failure)
    → GivesSought files name directories before after (Err failure) → GivesFiles files (sought name directories ∷ names) before after [] (Some failure)
GivesFiles-missed files name directories names before after failure one = (one.0, one.1, missed one.2)

-- no name is left
pub GivesFiles-none : (files : Option Files) (now : ℕ) → GivesFiles files [] now now [] None
GivesFiles-none files now = (0, omega arith, no_name)

-- there are as many files as names, if none was missed
same_count : (files : Option Files) (names : List Sought) (n : ℕ) (found : List Found) (stop : Option Failure) → ReadsFiles files names n found stop
    → stop ≡ None → length found ≡ length names
same_count files _ _ _ _ no_name none = refl
same_count files _ _ _ _ (read {s} {names} {found} {later} {stop} n m one rest) none = ap suc (same_count files names m later stop rest none)
same_count files _ _ _ _ (missed one) none = absurd (cc none)

sought_count : (names : List (List ℕ)) (first other : Option (List ℕ)) (directories : List (List ℕ))
    → length (sought_names names first other directories) ≡ length names
sought_count [] first other directories = refl
sought_count (name ∷ names) first other directories = ap suc (sought_count names other other directories)

pub as_many : (files : Option Files) (names : List (List ℕ)) (first other : Option (List ℕ)) (directories : List (List ℕ)) (before after : ℕ)
    (found : List Found)
    → GivesFiles files (sought_names names first other directories) before after found None → length found ≡ length names
as_many files names first other directories before after found h =
    same_count files _ h.0 found None h.2 refl ∙ sought_count names first other directories

-- the items from one on
pub from-one : {X : Type 0} (xs : List X) (i : ℕ) (x : X) → i < length xs → x ≡ get_or xs i x → drop i xs ≡ x ∷ drop (i + 1) xs
from-one xs i x low is = rw (drop_more xs i x low, ← is) refl

-- ---- entries

-- as many entries as files
pub entries_count : (user : Bool) (files : List Found) (es : List Extended) → AreEntries user files es → length es ≡ length files
entries_count user [] [] are = refl
entries_count user [] (e ∷ es) are = absurd are
entries_count user (file ∷ files) [] are = absurd are
entries_count user (file ∷ files) (e ∷ es) are = ap suc (entries_count user files es are.1)

-- memory may run out at any file
pub memory-bad : (user : Bool) (files : List Found) → IsBadFile user files out_of_memory
memory-bad user [] = refl
memory-bad user (file ∷ files) = inl (inl refl)

-- what holds once a part of the files are known to be entries
module _ (user : Bool) (files : List Found) (i : ℕ) (file : Found) (low : i < length files) (is : file ≡ get_or files i file) where
  pub more-entries : (e : Extended) (done : List Extended) → IsEntry user file e
      → ((later : List Extended) → AreEntries user (drop i files) later → AreEntries user files (done ++ later))
      → (later : List Extended) → AreEntries user (drop (i + 1) files) later → AreEntries user files ((done ++ e ∷ []) ++ later)
  more-entries e done entry rest later are =
      subst (λ (es : List Extended). AreEntries user files es) (sym (append_assoc done (e ∷ []) later))
      (rest (e ∷ later) (subst (λ (fs : List Found). AreEntries user fs (e ∷ later)) (sym (from-one files i file low is)) (entry, are)))

  pub more-bad : (e : Extended) → IsEntry user file e → ((failure : Failure) → IsBadFile user (drop i files) failure → IsBadFile user files failure)
      → (failure : Failure) → IsBadFile user (drop (i + 1) files) failure → IsBadFile user files failure
  more-bad e entry rest failure bad =
      rest failure (subst (λ (fs : List Found). IsBadFile user fs failure) (sym (from-one files i file low is)) (inr ((e, entry), bad)))

  pub here-bad : (failure : Failure) → IsRefused user file failure
      → ((failure : Failure) → IsBadFile user (drop i files) failure → IsBadFile user files failure) → IsBadFile user files failure
  here-bad failure refused rest =
      rest failure (subst (λ (fs : List Found). IsBadFile user fs failure) (sym (from-one files i file low is)) (inl refused))

-- once all are
pub all-entries : (user : Bool) (files : List Found) (i : ℕ) (done : List Extended) → length files ≤ i
    → ((later : List Extended) → AreEntries user (drop i files) later → AreEntries user files (done ++ later)) → AreEntries user files done
all-entries user files i done past rest =
    subst (λ (es : List Extended). AreEntries user files es) (append-nil done)
    (rest [] (subst (λ (fs : List Found). AreEntries user fs []) (sym (drop_all i files past)) tt))

-- ---- the names from one on

pub names-at : {X : Type 0} (f : X → List ℕ) (xs : List X) (i : ℕ) (d : X) (only other : Option (List ℕ)) (directories : List (List ℕ)) → i < length xs
    → sought_names (map f (drop i xs)) only other directories
    ≡ sought (f (get_or xs i d)) (directories_for only directories) ∷ sought_names (map f (drop (i + 1) xs)) other other directories
names-at f xs i d only other directories low = ap (λ ys. sought_names (map f ys) only other directories) (drop_more xs i d low)

pub names-end : {X : Type 0} (f : X → List ℕ) (xs : List X) (i : ℕ) (only other : Option (List ℕ)) (directories : List (List ℕ)) → length xs ≤ i
    → sought_names (map f (drop i xs)) only other directories ≡ []
names-end f xs i only other directories past = ap (λ ys. sought_names (map f ys) only other directories) (drop_all i xs past)

-- memory may run out at any name
memory-either : (b : Bool) (files : Option Files) (name : List ℕ) (directories : List (List ℕ)) (n : ℕ)
    → AnswersEither b files name directories n (Err out_of_memory)
memory-either true files name directories n = tt
memory-either false files name directories n = tt

pub memory-sought : (files : Option Files) (name : List ℕ) (directories : List (List ℕ)) (before after : ℕ) (r : Result Found Failure)
    → GivesSought files name directories before after r → GivesSought files name directories before after (Err out_of_memory)
memory-sought files name directories before after r one = (one.0, one.1, memory-either (is_path name) files name directories one.0)

-- ---- what is added to a list

pub pushed-items : {X E T : Type 0} (r : Result T E) (old new : List X) (x : X) → new ≡ (if is_ok r then old ++ x ∷ [] else old) → is_err r ≡ false
    → new ≡ old ++ x ∷ []
pushed-items (Ok done) old new x is none = is
pushed-items (Err e) old new x is none = absurd (cc none)

pub kept-items : {X E T : Type 0} (r : Result T E) (old new : List X) (x : X) → new ≡ (if is_ok r then old ++ x ∷ [] else old) → is_err r ≡ true → new ≡ old
kept-items (Ok done) old new x is failed = absurd (cc failed)
kept-items (Err e) old new x is failed = is

pub pushed-shown : {X Y E T : Type 0} (f : X → Y) (r : Result T E) (old new : List X) (x : X) → new ≡ (if is_ok r then old ++ x ∷ [] else old)
    → is_err r ≡ false → map f new ≡ map f old ++ f x ∷ []
pushed-shown f r old new x is none = ap (map f) (pushed-items r old new x is none) ∙ map-append f old (x ∷ [])

-- ---- enough entries for a mode

two : (m : InfocmpMode) → m ≢ mode.List → least_names m ≡ 2
two mode.List not = absurd (not refl)
two mode.Differ not = refl
two mode.Common not = refl
two mode.Neither not = refl
two mode.Relative not = refl

pub has_others : {X : Type 0} (f : X → Extended) (user : Bool) (files : List Found) (m : InfocmpMode) (first : X) (others : List X)
    → least_names m ≤ length files → AreEntries user files (map f (first ∷ others)) → m ≢ mode.List → others ≢ []
has_others f user files m first [] least are not none =
    let count : 1 ≡ length files = entries_count user files (map f (first ∷ [])) are in
    let needs : least_names m ≡ 2 = two m not in
    absurd (omega arith)
has_others f user files m first (other ∷ others) least are not none = absurd (cc none)

-- the entries without user-defined capabilities are those that are shown
pub entries-plain : (views : List View) → entries_in (map (λ view. plain_entry view) views) ≡ entries_shown views
entries-plain [] = refl
entries-plain (view ∷ views) = ap (λ es. entry_seen view ∷ es) (entries-plain views)

-- there are enough names for a mode
enough : (m : InfocmpMode) (given : List (List ℕ)) (own : Option (List ℕ)) (names : List (List ℕ)) (b : Bool) → nat_le (least_names m) (length given) ≡ b
    → (if b then Some given else option_map (λ (name : List ℕ). given ++ replicate (least_names m - length given) name) own) ≡ Some names
    → least_names m ≤ length names
enough m given own names true e is =
    let same : given ≡ names = cc is in
    let low : least_names m ≤ length given = leb-true (least_names m) (length given) e in
    subst (λ (all : List (List ℕ)). least_names m ≤ length all) same low
enough m given None names false e is = absurd (cc is)
enough m given (Some own) names false e is =
    let same : given ++ replicate (least_names m - length given) own ≡ names = cc is in
    let k = least_names m - length given in
    let count : length (given ++ replicate k own) ≡ length given + k = rw (length-append given (replicate k own), length-replicate k own) refl in
    let low : least_names m ≤ length given + (least_names m - length given) = omega arith in
    subst (λ (all : List (List ℕ)). least_names m ≤ length all) same (subst (λ (n : ℕ). least_names m ≤ n) (sym count) low)

pub enough-names : (m : InfocmpMode) (given : List (List ℕ)) (own : Option (List ℕ)) (names : List (List ℕ)) → all_names m given own ≡ Some names
    → least_names m ≤ length names
enough-names m given own names is = enough m given own names _ refl is

-- and enough files, if none was missed
pub enough-files : (m : InfocmpMode) (given : List (List ℕ)) (own : Option (List ℕ)) (names : List (List ℕ)) (files : Option Files)
    (first other : Option (List ℕ)) (directories : List (List ℕ)) (before after : ℕ) (found : List Found) → all_names m given own ≡ Some names
    → GivesFiles files (sought_names names first other directories) before after found None → least_names m ≤ length found
enough-files m given own names files first other directories before after found is h =
    subst (λ (n : ℕ). least_names m ≤ n) (sym (as_many files names first other directories before after found h)) (enough-names m given own names is)
