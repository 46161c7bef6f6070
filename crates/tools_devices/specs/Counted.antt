-- Devices with a count of their failures and of their reads (own).
use Rattle.std.specs.Prelude.{◌≡◌, ℕ, List, [], ◌∷◌, zero, suc, Option, Result, Ok, Err}
use Rattle.tools_devices.specs.declared.counted.Counted.{Counted}

-- the device, unchanged
abbrev pub device_of : {D : Type 0} → Counted D → D
device_of c = c.device

-- how often it has failed
abbrev pub failures_of : {D : Type 0} → Counted D → ℕ
failures_of c = c.failures.count

-- how often it was read from
abbrev pub reads_of : {D : Type 0} → Counted D → ℕ
reads_of c = c.reads.count

-- how many writes came after the last flush
abbrev pub unflushed_of : {D : Type 0} → Counted D → ℕ
unflushed_of c = c.unflushed.count

-- what was written is flushed
abbrev pub IsFlushed : {D : Type 0} → Counted D → Type 0
IsFlushed c = unflushed_of c ≡ 0

-- a flush that does not fail leaves no write unflushed
abbrev pub unflushed_after : {X E : Type 0} → Result X E → ℕ → ℕ
unflushed_after (Ok x) unflushed = 0
unflushed_after (Err e) unflushed = unflushed

-- a call that returns a fault is one failure
abbrev pub failed_read : {X E : Type 0} → Result X E → ℕ
failed_read (Ok x) = 0
failed_read (Err e) = 1

-- a call that takes no byte of a piece that has some is one failure
abbrev pub none_taken : ℕ → List ℕ → ℕ
none_taken zero [] = 0
none_taken zero (b ∷ bytes) = 1
none_taken (suc n) bytes = 0

-- a write that returns a fault is one failure, as is one that takes no byte of a piece that has
-- some
abbrev pub failed_write : {E : Type 0} → Result ℕ E → List ℕ → ℕ
failed_write (Ok n) bytes = none_taken n bytes
failed_write (Err e) bytes = 1

-- what a contract sees of a device: the bytes that a reader has left or a writer holds, if they are
-- known, how often it failed, and how often it was read from
pub record Observed : Type 0 where
  pub bytes : Option (List ℕ)
  pub failures : ℕ
  pub reads : ℕ

-- what a contract sees of a counted device, given how its bytes are seen:
-- `observation R.remaining reader` or `observation W.contents writer`
abbrev pub observation : {D : Type 0} → (D → Option (List ℕ)) → Counted D → Observed
observation bytes c = record { bytes = bytes (device_of c); failures = failures_of c; reads = reads_of c }
