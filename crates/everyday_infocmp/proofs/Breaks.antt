-- A text without its breaks, byte for byte.
use Rattle.std.proofs.Common.{◌≡◌, ℕ, Bool, true, false, refl, suc, ◌+◌, ◌-◌, ◌<◌, ◌≤◌, List, [], ◌++◌, length, sym, ◌∙◌, ap, arith, append_assoc, append-nil}
use Rattle.std.specs.List.{flat_map, range_with_len}
use Rattle.tools_directories.specs.declared.finding.Found.{Found}
use Rattle.everyday_entries.specs.Failures.{out_of_memory}
use Rattle.everyday_words.specs.Requests.{InfocmpWanted}
use Rattle.everyday_infocmp.specs.Entries.{IsBadFile}
use Rattle.everyday_infocmp.specs.Joining.{as_asked, byte_at, bytes_from, is_joined, joined}
use Rattle.everyday_infocmp.proofs.Files.{memory-bad}

-- the bytes from a place on begin with what is left of its own
first_byte : (text : List ℕ) (at : ℕ) → at < length text → bytes_from text at ≡ byte_at text at ++ bytes_from text (at + 1)
first_byte text at within =
    let count : length text - at ≡ suc (length text - (at + 1)) = omega arith in
    ap (λ (n : ℕ). flat_map (byte_at text) (range_with_len at n)) count

-- after a byte was looked at, the same is known of those that are left
pub one_byte : (text : List ℕ) (at : ℕ) (before after all : List ℕ) → at < length text → after ≡ before ++ byte_at text at
    → before ++ bytes_from text at ≡ all → after ++ bytes_from text (at + 1) ≡ all
one_byte text at before after all within writes known =
    rw (writes, append_assoc) (ap (λ (rest : List ℕ). before ++ rest) (sym (first_byte text at within)) ∙ known)

-- none is left after the last
pub all_bytes : (text : List ℕ) (at : ℕ) (before all : List ℕ) → length text ≤ at → before ++ bytes_from text at ≡ all → before ≡ all
all_bytes text at before all past known =
    let none : length text - at ≡ 0 = omega arith in
    let rest : bytes_from text at ≡ [] = ap (λ (n : ℕ). flat_map (byte_at text) (range_with_len at n)) none in
    sym (append-nil before) ∙ ap (λ (later : List ℕ). before ++ later) (sym rest) ∙ known

-- a text that is to be on one line, and one that is not
pub on_one_line : (wanted : InfocmpWanted) (text line : List ℕ) → is_joined wanted ≡ true → line ≡ joined text → line ≡ as_asked wanted text
on_one_line wanted text line is_to_be is = rw is_to_be is

pub as_it_is : (wanted : InfocmpWanted) (text : List ℕ) → is_joined wanted ≡ false → text ≡ as_asked wanted text
as_it_is wanted text is_not = rw is_not refl

-- memory may run out at any file
pub memory_bad : (user : Bool) (files : List Found) → IsBadFile user files out_of_memory
memory_bad user files = memory-bad user files
