-- What an entry holds, as it is counted.
use Rattle.std.proofs.Common.{◌≡◌, ℕ, zero, suc, ◌<◌, All, Bool, true, false, cond, inl, inr, List, [], ◌+◌, get_or, length, add-one, Option, Some, None}
use Rattle.std.proofs.Common.{slice_get, refl, sym, ap, subst, ◌∙◌, arith}
use Rattle.std.specs.Prelude.{option_and_then, option_map}
use Rattle.std.proofs.lemmas.Bool.{cases_Bool}
use Rattle.std.proofs.lemmas.Option.{none-some, same_Some, slice_get-get_or, slice_get-map}
use Rattle.ti_caps.specs.Tables.{Capability, IsCapability, capability, count_of}
use Rattle.ti_caps.specs.declared.capability.Kind.{Kind}
use Rattle.ti_caps.specs.declared.capability.Kind.TheVariants.{Flag, Number, Text}
use Rattle.ti_source.specs.Parsing.{reading_of_text}
use Rattle.ti_source.specs.Reading.{Reading}
use Rattle.ti_source.specs.Sound.{EachIsWellRead}
use Rattle.ti_layout.specs.Image.{ByIndex, is_there, of_kind}
use Rattle.ti_layout.specs.Laws.{ImagesAreRead}
use Rattle.ti_layout.specs.Reading.{Reads}
use Rattle.ti_layout.specs.Values.{Contents, Mention}
use Rattle.base_meaning.specs.Compiled as meaning
use Rattle.base_meaning.specs.Compiled.{compiled, entry, image_of, is_too_large}
use Rattle.base_meaning.specs.Expansion.{expansion, values}
use Rattle.base_meaning.specs.Owner.{readings}
use Rattle.source_document.specs.Diagnostics.{Shown}
use Rattle.source_blocks.specs.Holdings.{count_there, entry_faulty, entry_held, entry_of, entry_with, holding}
use Rattle.source_blocks.specs.declared.holdings.Holding.{Holding}
use Rattle.source_document.specs.Documents.{IsShortBlock}
use Rattle.source_blocks.proofs.EntriesRead.{entry_reads}

-- ---- counts

count_same : (f g : ByIndex) (n : ℕ) → ((i : ℕ) → i < n → f i ≡ g i) → count_there f n ≡ count_there g n
unfolding count_there
count_same f g zero same = refl
count_same f g (suc n) same = rw (same n (omega arith), count_same f g n (λ i below. same i (omega (arith, below)))) refl

kind_same : (c d : Contents) → ((k : Capability) → IsCapability k → c k ≡ d k) → (kind : Kind)
    → count_there (of_kind c kind) (count_of kind) ≡ count_there (of_kind d kind) (count_of kind)
kind_same c d same kind = count_same (of_kind c kind) (of_kind d kind) (count_of kind) (λ i below. same (capability kind i) below)

pub holding_same : (c d : Contents) (size : ℕ) → ((k : Capability) → IsCapability k → c k ≡ d k) → holding c size ≡ holding d size
holding_same c d size same = rw (kind_same c d same Flag, kind_same c d same Number, kind_same c d same Text) refl

pub count_none : (by_index : ByIndex) → count_there by_index 0 ≡ 0
unfolding count_there
count_none by_index = refl

count_more : (by_index : ByIndex) (n : ℕ) (b : Bool) → is_there (by_index n) ≡ b → count_there by_index (suc n)
    ≡ cond b (suc (count_there by_index n)) (count_there by_index n)
unfolding count_there
count_more by_index n b e = rw e refl

pub count_one : (by_index : ByIndex) (n count : ℕ) → is_there (by_index n) ≡ true → count ≡ count_there by_index n → count + 1 ≡ count_there by_index (n + 1)
count_one by_index n count e so =
    ap (λ (k : ℕ). k + 1) so ∙ add-one (count_there by_index n) ∙ sym (ap (count_there by_index) (add-one n) ∙ count_more by_index n true e)

pub count_no : (by_index : ByIndex) (n count : ℕ) → is_there (by_index n) ≡ false → count ≡ count_there by_index n → count ≡ count_there by_index (n + 1)
count_no by_index n count e so = so ∙ sym (ap (count_there by_index) (add-one n) ∙ count_more by_index n false e)

-- ---- whether a block has an entry

none_with : (cause : Option Shown) (b : Reading) (o : Option (List Mention)) → option_and_then (meaning.entry_of b) o ≡ None
    → entry_faulty cause ≡ entry_with cause b o
none_with cause b None e = refl
none_with cause b (Some ms) e = elim (is_too_large b ms) as (λ v. cond v None (Some (image_of b ms)) ≡ None
    → entry_faulty cause ≡ cond v (entry_faulty cause) (entry_held (holding (values ms) (length (image_of b ms))))) [
      | true ↦ λ is. refl
      | false ↦ λ is. absurd (none-some (image_of b ms) (sym is))
    ] e

-- what the block says, whose entry these bytes are
pub record IsEntryOf (b : Reading) (o : Option (List Mention)) (bytes : List ℕ) : Type 0 where
  pub ms : List Mention
  pub expands : o ≡ Some ms
  pub fits : is_too_large b ms ≡ false
  pub whole : image_of b ms ≡ bytes

some_with : (b : Reading) (o : Option (List Mention)) (bytes : List ℕ) → option_and_then (meaning.entry_of b) o ≡ Some bytes → IsEntryOf b o bytes
some_with b None bytes e = absurd (none-some bytes e)
some_with b (Some ms) bytes e = elim (cases_Bool (is_too_large b ms)) [
  | inl large ↦ absurd (none-some bytes (sym (ap (λ (v : Bool). cond v None (Some (image_of b ms))) large) ∙ e))
  | inr small ↦ record {
    ms = ms;
    expands = refl;
    fits = small;
    whole =
        same_Some (image_of b ms) bytes (sym (ap (λ (v : Bool). cond v None (Some (image_of b ms))) small) ∙ e);
  }
]

-- ---- the block at a position

pub read_at : (texts : List (List ℕ)) (at : ℕ) (text : List ℕ) → slice_get texts at ≡ Some text → slice_get (readings texts) at ≡ Some (reading_of_text text)
read_at texts at text e = slice_get-map reading_of_text texts at ∙ ap (option_map reading_of_text) e

held_with : (cause : Option Shown) (b : Reading) (ms : List Mention) → is_too_large b ms ≡ false
    → entry_with cause b (Some ms) ≡ entry_held (holding (values ms) (length (image_of b ms)))
held_with cause b ms small = ap (λ (v : Bool). cond v (entry_faulty cause) (entry_held (holding (values ms) (length (image_of b ms))))) small

pub block_here : (texts : List (List ℕ)) (at : ℕ) → at < length texts → slice_get (readings texts) at ≡ Some (reading_of_text (get_or texts at []))
block_here texts at within = read_at texts at (get_or texts at []) (slice_get-get_or texts at [] within)

pub no_entry : (texts : List (List ℕ)) (cause : Option Shown) (at : ℕ) → at < length texts → compiled texts at ≡ None
    → entry_faulty cause ≡ entry_of (readings texts) cause (slice_get (readings texts) at)
no_entry texts cause at within e =
    let block = reading_of_text (get_or texts at []) in
    let here = block_here texts at within in
    none_with cause block (expansion (readings texts) block) (sym (ap (option_and_then (entry (readings texts))) here) ∙ e)
    ∙ ap (entry_of (readings texts) cause) (sym here)

-- these bytes are read as what the entry at a position holds
pub record IsHeldIn (texts : List (List ℕ)) (cause : Option Shown) (at : ℕ) (bytes : List ℕ) : Type 0 where
  pub names : List ℕ
  pub contents : Contents
  pub reads : Reads bytes names contents
  pub held : entry_held (holding contents (length bytes)) ≡ entry_of (readings texts) cause (slice_get (readings texts) at)

pub found_entry : EachIsWellRead → ImagesAreRead → (texts : List (List ℕ)) → All IsShortBlock texts → (cause : Option Shown) (at : ℕ) → at < length texts
    → (bytes : List ℕ) → compiled texts at ≡ Some bytes → IsHeldIn texts cause at bytes
found_entry each images texts short cause at within bytes e =
    let text = get_or texts at [] in
    let block = reading_of_text text in
    let here = block_here texts at within in
    let s = some_with block (expansion (readings texts) block) bytes (sym (ap (option_and_then (entry (readings texts))) here) ∙ e) in
    let r = entry_reads each images texts short text (short at [] within).1 s.ms s.expands s.fits in
    record {
      names = block.field;
      contents = r.read;
      reads = subst (λ (b : List ℕ). Reads b block.field r.read) s.whole r.reads;
      held = ap (λ (h : Holding). entry_held h) (holding_same r.read (values s.ms) (length bytes) r.same)
          ∙ ap (λ (b : List ℕ). entry_held (holding (values s.ms) (length b))) (sym s.whole)
          ∙ sym (held_with cause block s.ms s.fits)
          ∙ ap (entry_with cause block) (sym s.expands)
          ∙ ap (entry_of (readings texts) cause) (sym here);
    }
