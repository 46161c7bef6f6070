use Rattle.std.proofs.Common.{◌+◌, ◌<◌, ◌≤◌, ℕ, List, length, take, add-one, inl, inr, refl, sym, subst, arith}
use Rattle.std.proofs.lemmas.List.{length-take-le}
use Rattle.ti_layout.specs.Reading.{Reads, FailsToRead}
use Rattle.ti_layout.specs.View.{names_of, view_contents}
use Rattle.ti_layout.specs.Values.{Contents}
use Rattle.ti_layout.specs.declared.fault.ReadError.{ReadError}
use Rattle.ti_layout.specs.declared.fault.ReadError.TheVariants.{Counts}
use Rattle.tools_devices.specs.Searching.{IsTooLong}
use Rattle.tools_devices.proofs.searching.entry_within.Goals as goal

-- the first bytes of a file that is too long are refused, or are an entry
refused_front : (limit : ℕ) (bytes : List ℕ) (error : ReadError) → limit < length bytes → FailsToRead (take (limit + 1) bytes) error
    → IsTooLong limit bytes error
refused_front limit bytes error past refused = (past, inl (subst (λ (n : ℕ). FailsToRead (take n bytes) error) (add-one limit) refused))

read_front : (limit : ℕ) (bytes names : List ℕ) (contents : Contents) → limit < length bytes → Reads (take (limit + 1) bytes) names contents
    → IsTooLong limit bytes Counts
read_front limit bytes names contents past reads =
    (past, inr (refl, names, contents, subst (λ (n : ℕ). Reads (take n bytes) names contents) (add-one limit) reads))

one_more : (limit : ℕ) (bytes : List ℕ) → limit < length bytes → limit + 1 ≤ length bytes
one_more limit bytes past = omega arith

pub returns-in-Ok : goal.returns-in-Ok
returns-in-Ok c = (c.if-bytes-limit.true, c.in-Ok.ensures.found)

pub returns-in-Err : goal.returns-in-Err
returns-in-Err c = inl (c.if-bytes-limit.true, c.in-Err.ensures.refused)

pub slice_bounds-read-end : goal.slice_bounds-read-end
slice_bounds-read-end c =
    sym (length-take-le (c.args.limit + 1) c.args.bytes.now (one_more c.args.limit c.args.bytes.now c.if-bytes-limit.false))

pub returns-in-Ok-read : goal.returns-in-Ok-read
returns-in-Ok-read c =
    let view = c.in-Ok-read.field-0 in
    inr (read_front c.args.limit c.args.bytes.now (names_of view) (view_contents view) c.if-bytes-limit.false c.in-Ok-read.ensures.found)

pub returns-in-Err-read : goal.returns-in-Err-read
returns-in-Err-read c = inr (refused_front c.args.limit c.args.bytes.now c.in-Err-read.error c.if-bytes-limit.false c.in-Err-read.ensures.refused)
