-- Bytes that were read and are not used yet, in a buffer.
use Rattle.std.specs.Prelude.{ℕ, List, [], Option, Some, slice_range}
use Rattle.std.specs.Io.KnownBytes.{prepend_known}
use Rattle.tools_devices.specs.Counted.{device_of, failures_of}
use Rattle.lsp_frames.specs.Inputs.{InputSeen}
use Rattle.lsp_frames.specs.declared.buffered.Buffered.{Buffered}

-- the bytes that are not used yet
abbrev pub ahead_of : {R : Type 0} → Buffered R → List ℕ
ahead_of input = slice_range input.buffer.items input.from input.to

-- an input with a buffer, given what its device has left
abbrev pub buffered_seen : {R : Type 0} → (R → Option (List ℕ)) → Buffered R → InputSeen
buffered_seen remaining input = record {
  bytes = prepend_known (ahead_of input) (remaining (device_of input.device));
  failures = failures_of input.device;
  pieces = input.log.pieces;
  ahead = ahead_of input;
}

-- bytes that are all there
abbrev pub held_seen : List ℕ → InputSeen
held_seen bytes = record { bytes = Some bytes; failures = 0; pieces = []; ahead = bytes }
