-- What follows an entry that was read.
use Rattle.std.proofs.Common.{◌≡◌, ℕ, ◌+◌, ◌-◌, ◌%◌, ◌≤◌, min, List, length, take, drop, refl, sym, ap, ◌∙◌, subst}
use Rattle.std.proofs.lemmas.List.{drop_min}
use Rattle.ti_layout.specs.Reading.{IsHeaderAt, Reads, entry_end}
use Rattle.ti_layout.specs.Layout.{entry_size}
use Rattle.ti_layout.specs.declared.header.Header.{Header}
use Rattle.ti_layout.specs.Values.{Contents}
use Rattle.ti_layout.proofs.Parts.{found}
use Rattle.ti_layout.proofs.ViewLemmas.{rest_of}
use Rattle.user_extension.specs.Reading.{after_entry}

-- an entry that is read is as long as its header says
pub as_long : (bytes names : List ℕ) (c : Contents) → Reads bytes names c → (12 ≤ length bytes) × (entry_end bytes ≤ length bytes)
as_long bytes names c r =
    let f = found r.format r.sections r.sound in
    subst (λ (x : List ℕ). (12 ≤ length x) × (entry_end x ≤ length x)) (sym r.whole) (f.long, f.whole)

pub after_is : (bytes : List ℕ) (m size : ℕ) → size ≡ entry_end bytes → m ≡ min (size + size % 2) (length bytes)
    → take (length bytes - m) (drop m bytes) ≡ after_entry bytes
after_is bytes m size e i = rest_of m bytes ∙ ap (λ (k : ℕ). drop k bytes) i ∙ drop_min (size + size % 2) bytes ∙ ap (λ (n : ℕ). drop (n + n % 2) bytes) e

-- the size by the header that was read
pub by_header : (bytes : List ℕ) (h : Header) → IsHeaderAt bytes h → entry_size h.format h.names h.flags h.numbers h.texts h.strings ≡ entry_end bytes
by_header bytes h is =
    let a = is.format in let b = is.names in let d = is.flags in let e = is.numbers in let f = is.texts in let g = is.strings in rw (a, b, d, e, f, g) refl
