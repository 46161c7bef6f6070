-- The nearest file of settings.
use Rattle.std.proofs.Common.{◌≡◌, ℕ, ◌+◌, ◌<◌, ◌++◌, List, Option, Some, None, codes, ap, add-one, inr, below_more}
use Rattle.tools_devices.specs.Tree.{Files, FindsFile}
use Rattle.source_settings.specs.Finding.{IsSettled, NoneWithin, SettlesBy, directory_count, file_above, up, whole_size}
use Rattle.source_settings.specs.declared.finding.Settled.{Settled}
use Rattle.source_settings.specs.declared.finding.Settled.TheVariants.{By, Unread, Wrong}

-- one directory more has none
pub none-more : (files : Option Files) (source : List ℕ) (count : ℕ) → NoneWithin files source count
    → FindsFile (file_above count source) whole_size files None → NoneWithin files source (count + 1)
none-more files source count before here = below_more (λ nearer. FindsFile (file_above nearer source) whole_size files None) count before here

-- one directory above so many
pub up-more : (directory : List ℕ) (count : ℕ) → up (count + 1) directory ≡ up count directory ++ codes "../"
up-more directory count = ap (λ (n : ℕ). up n directory) (add-one count)

-- what the nearest file settles
pub settled-at : (files : Option Files) (source path bytes : List ℕ) (count before after : ℕ) (settled : Settled) → count < directory_count
    → NoneWithin files source count → path ≡ file_above count source → FindsFile (file_above count source) whole_size files (Some bytes)
    → after ≡ before → SettlesBy path bytes settled → IsSettled files source before after settled
settled-at files source path bytes count before after (By settings) within none at there same by_it =
    (inr (count, bytes, record { nearest = record { within = within; nearer = none }; there = there; by_it = by_it }), same)
settled-at files source path bytes count before after (Wrong text) within none at there same by_it =
    (inr (count, bytes, record { nearest = record { within = within; nearer = none }; there = there; by_it = rw at at by_it }), same)
settled-at files source path bytes count before after (Unread text) within none at there same by_it = absurd by_it
