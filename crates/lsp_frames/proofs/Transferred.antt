-- Bytes that were read from a device or written to one, one part after another.
use Rattle.std.proofs.Common.{ℕ, zero, suc, ◌≡◌, ◌+◌, ◌<◌, ◌≤◌, List, [], ◌∷◌, ◌++◌, Option, None, Some, length, take, get_or}
use Rattle.std.proofs.Common.{refl, ap, sym, ◌∙◌, append-nil, subst, arith, inl, inr}
use Rattle.std.specs.Io.KnownBytes.{Appends, Consumes, Keeps}
use Rattle.tools_devices.proofs.Written.{Appends-then}
use Rattle.tools_devices.specs.Counted.{Observed}
use Rattle.tools_devices.specs.Writing.{TakesAll, TakesFront}
use Rattle.lsp_frames.proofs.Used.{Gives-then, Uses-then}
use Rattle.lsp_frames.specs.Inputs.{Gives, InputSeen}
use Rattle.lsp_frames.specs.Transfers.{GivesNoMore}
use Rattle.lsp_frames.specs.Reads.{RunsDry}

-- known bytes that stay are consumed by none
pub Consumes-keeps : (u v : Option (List ℕ)) → Keeps u v → Consumes u v []
Consumes-keeps None v h = tt
Consumes-keeps (Some xs) None h = absurd h
Consumes-keeps (Some xs) (Some ys) h = sym h

-- known bytes that stay have none appended
pub Appends-keeps : (u v : Option (List ℕ)) → Keeps u v → Appends u v []
Appends-keeps None v h = tt
Appends-keeps (Some xs) None h = absurd h
Appends-keeps (Some xs) (Some ys) h = h ∙ sym (append-nil xs)

-- the reader gave no more, counted from before
pub GivesNoMore-then : (given mid left : InputSeen) (taken : List ℕ) → Gives given mid taken → GivesNoMore mid left → GivesNoMore given left
GivesNoMore-then given mid left taken gives (inl failed) = inl (failed ∙ ap (λ (n : ℕ). n + 1) gives.failures)
GivesNoMore-then given mid left taken gives (inr ended) = inr (ended.0 ∙ gives.failures, ended.1)

pub RunsDry-then : (given mid left : InputSeen) (a b : List ℕ) → Gives given mid a → RunsDry mid left b → RunsDry given left (a ++ b)
RunsDry-then given mid left a b gives dry = record {
  uses = Uses-then given mid left a b gives.uses dry.uses;
  cause = GivesNoMore-then given mid left a gives dry.cause;
}

-- the same after bytes that are all that were given
pub RunsDry-here : (given mid left : InputSeen) (a : List ℕ) → Gives given mid a → RunsDry mid left [] → RunsDry given left a
RunsDry-here given mid left a gives dry = subst (λ (t : List ℕ). RunsDry given left t) (append-nil a) (RunsDry-then given mid left a [] gives dry)

-- what was read after other bytes, put after them
pub Gives-onto : (given mid left : InputSeen) (a b whole : List ℕ) → Gives given mid a → Gives mid left b → whole ≡ a ++ b → Gives given left whole
Gives-onto given mid left a b whole first second is =
    subst (λ (t : List ℕ). Gives given left t) (sym is) (Gives-then given mid left a b first second)

-- a flush after all bytes were taken
pub TakesAll-flushed : (before mid now : Observed) (bytes : List ℕ) → TakesAll before mid bytes → Keeps mid.bytes now.bytes → now.failures ≡ mid.failures
    → TakesAll before now bytes
TakesAll-flushed before mid now bytes written keeps failures = record {
  bytes = subst (λ (t : List ℕ). Appends before.bytes now.bytes t) (append-nil bytes)
      (Appends-then before.bytes mid.bytes now.bytes bytes [] written.bytes (Appends-keeps mid.bytes now.bytes keeps));
  failures = failures ∙ written.failures;
}

-- a flush that fails after all bytes were taken
pub TakesFront-flushed : (before mid now : Observed) (bytes : List ℕ) → TakesAll before mid bytes → Keeps mid.bytes now.bytes
    → now.failures ≡ mid.failures + 1 → TakesFront before now bytes
TakesFront-flushed before mid now bytes written keeps failures = record {
  front = bytes;
  back = [];
  whole = sym (append-nil bytes);
  bytes = subst (λ (t : List ℕ). Appends before.bytes now.bytes t) (append-nil bytes)
      (Appends-then before.bytes mid.bytes now.bytes bytes [] written.bytes (Appends-keeps mid.bytes now.bytes keeps));
  failures = failures ∙ ap (λ (n : ℕ). n + 1) written.failures;
}

-- the one byte of a piece
pub one_taken : (piece : List ℕ) (count : ℕ) → length piece ≡ 1 → 0 < count → count ≤ length piece → take count piece ≡ get_or piece 0 0 ∷ []
one_taken [] count one some within = absurd (omega arith)
one_taken (byte ∷ []) zero one some within = absurd (omega arith)
one_taken (byte ∷ []) (suc zero) one some within = refl
one_taken (byte ∷ []) (suc (suc n)) one some within = absurd (omega arith)
one_taken (byte ∷ other ∷ more) count one some within = absurd (omega arith)
