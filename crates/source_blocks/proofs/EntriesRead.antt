-- The entry of a block is read as what the block says.
use Rattle.std.proofs.Common.{◌≡◌, ◌≢◌, ℕ, zero, suc, ◌<◌, All, Bool, true, false, cond, List, [], ◌∷◌, ◌++◌, length, Option, Some, None, refl, subst, ◌∙◌}
use Rattle.std.proofs.Common.{arith}
use Rattle.std.specs.Prelude.{filter, is_some, option_and_then, option_map}
use Rattle.std.proofs.lemmas.Bool.{ltb-false}
use Rattle.std.proofs.lemmas.List.Elements.{All-head, All-tail}
use Rattle.std.proofs.lemmas.Option.{none-some, same_Some}
use Rattle.ti_caps.specs.Tables.{Capability, IsCapability, same_capability}
use Rattle.ti_caps.proofs.Same.{same_capability-true}
use Rattle.ti_source.specs.Cutting.{OneBlock}
use Rattle.ti_source.specs.Parsing.{reading_of_text}
use Rattle.ti_source.specs.declared.parsing.Rule.{Rule}
use Rattle.ti_source.specs.declared.parsing.Rule.TheVariants.{Leftmost, OwnFirst}
use Rattle.ti_source.specs.Reading.{Reading, ReadItem, Said, said_flag, said_number, said_text, said_cancel, said_import}
use Rattle.ti_source.specs.Sound.{EachIsWellRead, SetsItsKind}
use Rattle.ti_layout.specs.Image.{image_limit}
use Rattle.ti_layout.specs.Laws.{ImagesAreRead, without_cancel}
use Rattle.ti_layout.specs.Reading.{Reads}
use Rattle.ti_layout.specs.Values.{Agrees, AgreesIfSome, Content, contents, content_true, content_number, content_text, content_cancelled, Contents, Mention}
use Rattle.base_meaning.specs.Compiled.{image_of, is_too_large}
use Rattle.base_meaning.specs.Expansion.{block_mentions, expand, expand_items, expansion, is_broken, mentions_of, own_items, uncancelled, use_items, values}
use Rattle.base_meaning.specs.Owner.{is_among, owner_block, readings}
use Rattle.base_meaning.proofs.Depth.{joined_parts}
use Rattle.base_meaning.proofs.Ruling.{mapped_part, own_items-all, use_items-all}
use Rattle.source_document.specs.Documents.{IsShortBlock}

-- ---- what a block says of capabilities fits them

abbrev pub MentionsFit : List Mention → Type 0
MentionsFit [] = Unit {0}
MentionsFit (m ∷ ms) = Agrees m.0 m.1 × MentionsFit ms

both_fit : (ms ns : List Mention) → MentionsFit ms → MentionsFit ns → MentionsFit (ms ++ ns)
both_fit [] ns f g = g
both_fit (m ∷ ms) ns f g = (f.0, both_fit ms ns f.1 g)

abbrev pub Names : Type 0
Names = List ℕ → Option (List Mention)

abbrev pub NamesFit : Names → Type 0
NamesFit of_name = (name : List ℕ) (ms : List Mention) → of_name name ≡ Some ms → MentionsFit ms

said_fits : (of_name : Names) → NamesFit of_name → (said : Said) (ms : List Mention) → SetsItsKind said → mentions_of of_name said ≡ Some ms → MentionsFit ms
said_fits of_name h (said_flag c) ms k e = subst MentionsFit (same_Some ((c, content_true) ∷ []) ms e) (k.1, tt)
said_fits of_name h (said_number c n) ms k e = subst MentionsFit (same_Some ((c, content_number n) ∷ []) ms e) ((k.1, k.2), tt)
said_fits of_name h (said_text c t) ms k e = subst MentionsFit (same_Some ((c, content_text t) ∷ []) ms e) ((k.1, k.2), tt)
said_fits of_name h (said_cancel c) ms k e = subst MentionsFit (same_Some ((c, content_cancelled) ∷ []) ms e) (tt, tt)
said_fits of_name h (said_import name) ms k e = h name ms e

abbrev pub ItemSets : ReadItem → Type 0
ItemSets item = SetsItsKind item.said

items_fit : (of_name : Names) → NamesFit of_name → (items : List ReadItem) (ms : List Mention) → All ItemSets items → expand_items of_name items ≡ Some ms
    → MentionsFit ms
items_fit of_name h [] ms k e = subst MentionsFit (same_Some [] ms e) tt
items_fit of_name h (i ∷ is) ms k e =
    let p = joined_parts (mentions_of of_name i.said) (expand_items of_name is) ms e in
    subst MentionsFit p.whole
    (both_fit p.front p.back (said_fits of_name h i.said p.front (All-head ItemSets i is k) p.front_is)
    (items_fit of_name h is p.back (All-tail ItemSets i is k) p.back_is))

one_kept : (b : Bool) (m : Mention) (ms : List Mention) → Agrees m.0 m.1 → MentionsFit ms → MentionsFit (cond b (m ∷ ms) ms)
one_kept true m ms fits others = (fits, others)
one_kept false m ms fits others = others

-- the mentions that are not cancelled are among the mentions
kept_fit : (p : Mention → Bool) (ms : List Mention) → MentionsFit ms → MentionsFit (filter p ms)
kept_fit p [] f = tt
kept_fit p (m ∷ ms) f = one_kept (p m) m (filter p ms) f.0 (kept_fit p ms f.1)

uncancelled_fit : (ms : List Mention) → MentionsFit ms → MentionsFit (uncancelled ms)
unfolding uncancelled
uncancelled_fit ms f = kept_fit (λ (m : Mention). is_some (values ms m.0)) ms f

ruled_fit : (rule : Rule) (of_name : Names) → NamesFit of_name → (items : List ReadItem) (ms : List Mention) → All ItemSets items
    → block_mentions rule of_name items ≡ Some ms → MentionsFit ms
ruled_fit Leftmost of_name h items ms k e = items_fit of_name h items ms k e
ruled_fit OwnFirst of_name h items ms k e =
    let p = joined_parts (expand_items of_name (own_items items)) (option_map uncancelled (expand_items of_name (use_items items))) ms e in
    let m = mapped_part uncancelled (expand_items of_name (use_items items)) p.back p.back_is in
    subst MentionsFit p.whole
    (both_fit p.front p.back (items_fit of_name h (own_items items) p.front (own_items-all ItemSets items k) p.front_is)
    (subst MentionsFit m.mapped (uncancelled_fit m.before (items_fit of_name h (use_items items) m.before (use_items-all ItemSets items k) m.is))))

abbrev pub OwnersSet : (List ℕ → Option Reading) → Type 0
OwnersSet env = (name : List ℕ) (b : Reading) → env name ≡ Some b → All ItemSets b.items

name_fits : (env : List ℕ → Option Reading) → OwnersSet env → (f : Reading → Option (List Mention))
    → ((b : Reading) (ms : List Mention) → All ItemSets b.items → f b ≡ Some ms → MentionsFit ms)
    → (name : List ℕ) (o : Option Reading) → env name ≡ o → (ms : List Mention) → option_and_then f o ≡ Some ms → MentionsFit ms
name_fits env sets f h name None is ms e = absurd (none-some ms e)
name_fits env sets f h name (Some b) is ms e = h b ms (sets name b is) e

-- a block that is expanded is not broken
unbroken : (b : Bool) (o : Option (List Mention)) (ms : List Mention) → cond b None o ≡ Some ms → (b ≡ false) × (o ≡ Some ms)
unbroken true o ms e = absurd (none-some ms e)
unbroken false o ms e = (refl, e)

block_fits : (env : List ℕ → Option Reading) → OwnersSet env → (depth : ℕ) (b : Reading) (ms : List Mention) → All ItemSets b.items
    → expand env depth b ≡ Some ms → MentionsFit ms
block_fits env sets zero b ms k e = absurd (none-some ms e)
block_fits env sets (suc depth) b ms k e =
    let of_name : Names = λ name. option_and_then (expand env depth) (env name) in
    ruled_fit b.rule of_name (λ name ns is. name_fits env sets (expand env depth) (block_fits env sets depth) name (env name) refl ns is) b.items ms k
    (unbroken (is_broken b) (block_mentions b.rule of_name b.items) ms e).1

content_fits : (ms : List Mention) → MentionsFit ms → (c : Capability) → AgreesIfSome c (contents ms c)
unfolding contents
content_fits [] f c = tt
content_fits (m ∷ ms) f c = elim (same_capability m.0 c) as (λ b. same_capability m.0 c ≡ b → AgreesIfSome c (cond b (Some m.1) (contents ms c))) [
  | true ↦ λ e. subst (λ (k : Capability). Agrees k m.1) (same_capability-true m.0 c e) f.0
  | false ↦ λ e. content_fits ms f.1 c
] refl

-- ---- a cancelled value is absent

uncancelled_twice : (o : Option Content) → without_cancel (without_cancel o) ≡ without_cancel o
uncancelled_twice None = refl
uncancelled_twice (Some content_true) = refl
uncancelled_twice (Some (content_number n)) = refl
uncancelled_twice (Some (content_text t)) = refl
uncancelled_twice (Some content_cancelled) = refl

uncancelled_fits : (c : Capability) (o : Option Content) → AgreesIfSome c o → AgreesIfSome c (without_cancel o)
uncancelled_fits c None a = a
uncancelled_fits c (Some content_true) a = a
uncancelled_fits c (Some (content_number n)) a = a
uncancelled_fits c (Some (content_text t)) a = a
uncancelled_fits c (Some content_cancelled) a = tt

-- ---- the blocks of a list

some_bytes : (xs : List ℕ) → xs ≢ [] → 0 < length xs
some_bytes [] none = absurd (none refl)
some_bytes (x ∷ xs) none = omega arith

owners_set : EachIsWellRead → (texts : List (List ℕ)) → All IsShortBlock texts → OwnersSet (owner_block (readings texts))
owners_set each [] short name b e = absurd (none-some b e)
owners_set each (t ∷ ts) short name b e = elim (is_among name (reading_of_text t).names)
    as (λ v. cond v (Some (reading_of_text t)) (owner_block (readings ts) name) ≡ Some b → All ItemSets b.items) [
      | true ↦ λ is. subst (λ (r : Reading). All ItemSets r.items) (same_Some (reading_of_text t) b is) (each t (All-head IsShortBlock t ts short).1).sets
      | false ↦ λ is. owners_set each ts (All-tail IsShortBlock t ts short) name b is
    ] e

-- the entry of a block that resolves, and is within the limit, is read so
pub record IsReadAs (block : Reading) (ms : List Mention) : Type 0 where
  pub read : Contents
  pub reads : Reads (image_of block ms) block.field read
  pub same : (c : Capability) → IsCapability c → read c ≡ values ms c

pub entry_reads : EachIsWellRead → ImagesAreRead → (texts : List (List ℕ)) → All IsShortBlock texts → (text : List ℕ) → OneBlock text → (ms : List Mention)
    → expansion (readings texts) (reading_of_text text) ≡ Some ms → is_too_large (reading_of_text text) ms ≡ false → IsReadAs (reading_of_text text) ms
entry_reads each images texts short text one ms e fits =
    let block = reading_of_text text in
    let env = owner_block (readings texts) in
    let well = each text one in
    let of_name : Names = λ name. option_and_then (expand env (length (readings texts))) (env name) in
    let sound = (unbroken (is_broken block) (block_mentions block.rule of_name block.items) ms e).0 in
    let named = well.named sound in
    let agree = block_fits env (owners_set each texts short) (suc (length (readings texts))) block ms well.sets e in
    let r = images block.field (values ms) (some_bytes block.field named.some) named.short named.no_nul
    (λ c valid. uncancelled_fits c (contents ms c) (content_fits ms agree c)) (ltb-false (image_limit (values ms)) (length (image_of block ms)) fits) in
    record { read = r.0; reads = r.1; same = λ c valid. r.2 c valid ∙ uncancelled_twice (contents ms c) }
