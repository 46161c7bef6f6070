use Rattle.std.proofs.Common.{◌+◌, ◌<◌, ◌≤◌, ℕ, List, length, take, add-one, inl, inr, refl, subst, arith}
use Rattle.ti_layout.specs.declared.fault.ReadError.TheVariants.{Counts}
use Rattle.ti_layout.specs.declared.view.View.{View}
use Rattle.user_extension.specs.Reading.{FailsToRead}
use Rattle.user_extension.specs.declared.fault.ExtensionError.{ExtensionError}
use Rattle.user_extension.specs.declared.fault.ExtensionError.TheVariants as errors
use Rattle.user_extension.specs.declared.view.Extension.{Extension}
use Rattle.tools_directories.specs.Reading.{IsEntry, IsTooLong}
use Rattle.tools_directories.proofs.reading.read_within.Goals as goal

-- the first bytes of a file that is too long are refused, or are an entry
refused_front : (limit : ℕ) (bytes : List ℕ) (error : ExtensionError) → limit < length bytes → FailsToRead (take (limit + 1) bytes) error
    → IsTooLong limit bytes error
refused_front limit bytes error past refused = (past, inl (subst (λ (n : ℕ). FailsToRead (take n bytes) error) (add-one limit) refused))

read_front : (limit : ℕ) (bytes : List ℕ) (view : View) (extension : Extension) → limit < length bytes → IsEntry (take (limit + 1) bytes) view extension
    → IsTooLong limit bytes (errors.Entry Counts)
read_front limit bytes view extension past reads =
    (past, inr (refl, view, extension, subst (λ (n : ℕ). IsEntry (take n bytes) view extension) (add-one limit) reads))

one_more : (limit : ℕ) (bytes : List ℕ) → limit < length bytes → limit + 1 ≤ length bytes
one_more limit bytes past = omega arith

pub returns-in-Ok : goal.returns-in-Ok
returns-in-Ok c =
    inr (read_front c.args.limit c.args.bytes.now c.in-Ok.field-0.0 c.in-Ok.field-0.1 c.if-bytes-limit.false
    (record { reads = c.in-Ok.ensures.entry; rows = c.in-Ok.ensures.rows; ends = c.in-Ok.ensures.good }))

pub returns-in-Err : goal.returns-in-Err
returns-in-Err c = inr (refused_front c.args.limit c.args.bytes.now c.in-Err.error c.if-bytes-limit.false c.in-Err.ensures.refused)
