-- Going over the blocks of a source: those before a place are taken, and the next is, or is
-- refused.
use Rattle.std.proofs.Common.{◌≡◌, ◌⊎◌, ◌==◌, ℕ, suc, ◌+◌, ◌<◌, ◌≤◌, All, false, true, List, [], ◌∷◌, ◌++◌, length, map, take, refl, sym, ap, ap₂, add-zero}
use Rattle.std.proofs.Common.{zero-add, subst, ◌∙◌, inl, inr, arith}
use Rattle.std.specs.List.{concat, sum_by}
use Rattle.std.specs.Prelude.{Some, None, nat_le, nat_lt}
use Rattle.std.proofs.lemmas.Bool.{cases_Bool, eqb-true, le-leb, le-ltb, lt-leb, lt-ltb}
use Rattle.std.proofs.lemmas.List.{append-nil, append_assoc, length-append, take_at}
use Rattle.std.proofs.lemmas.List.Elements.{All-head, All-tail}
use Rattle.std.proofs.lemmas.List.Sums.{sum_by-append}
use Rattle.ti_text.specs.Limits.{block_bytes_max, blocks_max}
use Rattle.ti_text.specs.Lines.{line_count, LinesAdd}
use Rattle.ti_source.specs.Cutting.{BlocksAreSingle, Cut, EachHasCut, OneBlock, blocks_from_head, front_of, last_byte}
use Rattle.base_meaning.specs.Edits.{IsRefusal, IsSoundEdit, insertion}
use Rattle.base_meaning.specs.declared.edits.EditError.{EditError}
use Rattle.base_meaning.specs.declared.edits.EditError.TheVariants.{Position, TooLong, NotOneBlock, TooMany, Memory}
use Rattle.base_meaning.proofs.Causes.{one_cause, refused_unsound}
use Rattle.tools_sources.specs.declared.source_error.SourceError.{SourceError}
use Rattle.tools_sources.specs.declared.source_error.SourceError.TheVariants as source_error
use Rattle.tools_sources.specs.Sources.{AreTaken, IsFirstRefused, IsLoadRefusal, IsSourceRefusal, RefusalsAreComputed, SourcesHaveOneRefusal}
use Rattle.tools_sources.specs.Sources.{TakenSourcesAreNotRefused, TakenSourcesHaveNone, first_line, line_after, preface_of, refusal_from, source_refusal}
use Rattle.tools_sources.specs.Sources.{source_texts, with_last_newline}
use Rattle.tools_sources.proofs.Ending.{AllButLastEnded, blocks_of-all_but_last, last_byte-newline, preface_of-front, texts_of-blocks}

-- ---- two places of a list

-- of two places of a list one comes before the other, or they are the same
abbrev pub Apart : List (List ℕ) → List ℕ → List (List ℕ) → List ℕ → Type 0
Apart front block ahead other =
    ((front ≡ ahead) × (block ≡ other)) ⊎ (((mid : List (List ℕ)) × (ahead ≡ front ++ block ∷ mid)) ⊎ ((mid : List (List ℕ)) × (front ≡ ahead ++ other ∷ mid)))

pub places_apart : (front : List (List ℕ)) (block : List ℕ) (back ahead : List (List ℕ)) (other : List ℕ) (later : List (List ℕ))
    → front ++ block ∷ back ≡ ahead ++ other ∷ later → Apart front block ahead other
places_apart [] block back [] other later e = inl (refl, cc)
places_apart [] block back (x ∷ ahead) other later e =
    let head : block ≡ x = cc in
    inr (inl (ahead, ap (λ b. b ∷ ahead) (sym head)))
places_apart (y ∷ front) block back [] other later e =
    let head : y ≡ other = cc in
    inr (inr (front, ap (λ b. b ∷ front) head))
places_apart (y ∷ front) block back (x ∷ ahead) other later e =
    let head : y ≡ x = cc in
    let tail : front ++ block ∷ back ≡ ahead ++ other ∷ later = cc in
    elim (places_apart front block back ahead other later tail) [
      | inl same ↦ inl (rw (head, same.0) refl, same.1)
      | inr apart ↦ elim apart [
        | inl later ↦ inr (inl (later.0, rw (head, later.1) refl))
        | inr earlier ↦ inr (inr (earlier.0, rw (head, earlier.1) refl))
      ]
    ]

-- ---- blocks that are taken

pub taken_none : AreTaken []
taken_none [] block back e = absurd (cc)
taken_none (x ∷ front) block back e = absurd (cc)

pub taken_more : (blocks : List (List ℕ)) (block : List ℕ) → AreTaken blocks → IsSoundEdit blocks (insertion (length blocks) block)
    → AreTaken (blocks ++ block ∷ [])
taken_more blocks block before here front other back e =
    elim (places_apart blocks block [] front other back e) [
      | inl same ↦ subst (λ (b : List ℕ). IsSoundEdit front (insertion (length front) b)) same.1
          (subst (λ (bs : List (List ℕ)). IsSoundEdit bs (insertion (length bs) block)) same.0 here)
      | inr apart ↦ elim apart [
        | inl later ↦
            let n : length (blocks ++ block ∷ []) ≡ length (front ++ other ∷ back) = ap (λ (bs : List (List ℕ)). length bs) e in
            let m : length front ≡ length (blocks ++ block ∷ later.0) = ap (λ (bs : List (List ℕ)). length bs) later.1 in
            absurd (omega (arith, n, m, length-append blocks (block ∷ []), length-append front (other ∷ back), length-append blocks (block ∷ later.0)))
        | inr earlier ↦ before front other earlier.0 earlier.1
      ]
    ]

-- ---- what comes of a source is determined

-- no block before one that is refused is refused itself
earlier_taken : (blocks : List (List ℕ)) (cause other : EditError) (r : IsFirstRefused blocks cause) (s : IsFirstRefused blocks other) (mid : List (List ℕ))
    → (cause ≡ Memory → ⊥) → s.front ≡ r.front ++ r.block ∷ mid → ⊥
earlier_taken blocks cause other r s mid apart e =
    refused_unsound r.front (insertion (length r.front) r.block) cause apart r.refused (s.before r.front r.block mid e)

-- the first refusal of blocks is the same, if no cause is out of memory
same_refusal : (blocks : List (List ℕ)) (cause other : EditError) (r : IsFirstRefused blocks cause) (s : IsFirstRefused blocks other) → (cause ≡ Memory → ⊥)
    → (other ≡ Memory → ⊥) → (cause ≡ other) × (r.front ≡ s.front)
same_refusal blocks cause other r s apart apart' =
    elim (places_apart r.front r.block r.back s.front s.block s.back (sym r.whole ∙ s.whole)) [
      | inl same ↦ (
        one_cause r.front (insertion (length r.front) r.block) cause other r.refused
            (subst (λ (b : List ℕ). IsRefusal r.front (insertion (length r.front) b) other) (sym same.1)
            (subst (λ (bs : List (List ℕ)). IsRefusal bs (insertion (length bs) s.block) other) (sym same.0) s.refused)),
        same.0,
      )
      | inr differ ↦ elim differ [
        | inl later ↦ absurd (earlier_taken blocks cause other r s later.0 apart later.1)
        | inr earlier ↦ absurd (earlier_taken blocks other cause s r earlier.0 apart' earlier.1)
      ]
    ]

-- what a refusal is called
abbrev name_of : List ℕ → EditError → List (List ℕ) → SourceError
name_of source TooLong front = source_error.BlockTooLong (line_after source front)
name_of source other front = source_error.TooManyBlocks (line_after source front)

-- a refusal of a source by the cause of its first refused block
record IsNamed (source : List ℕ) (error : SourceError) : Type 0 where
  cause : EditError
  first : IsFirstRefused (source_texts source) cause
  apart : cause ≡ Memory → ⊥
  name : error ≡ name_of source cause first.front

named : (source : List ℕ) (error : SourceError) → IsSourceRefusal source error → IsNamed source error
named source (source_error.BlockTooLong line) r = record { cause = TooLong; first = r.0; apart = λ e. absurd (cc); name = ap source_error.BlockTooLong r.1 }
named source (source_error.TooManyBlocks line) r = record { cause = TooMany; first = r.0; apart = λ e. absurd (cc); name = ap source_error.TooManyBlocks r.1 }

pub taken_not_refused : TakenSourcesAreNotRefused
taken_not_refused source error taken refused =
    let n = named source error refused in
    let r = n.first in
    refused_unsound r.front (insertion (length r.front) r.block) n.cause n.apart r.refused (taken r.front r.block r.back r.whole)

pub one_refusal : SourcesHaveOneRefusal
one_refusal source one other r s =
    let n = named source one r in
    let m = named source other s in
    let same = same_refusal (source_texts source) n.cause m.cause n.first m.first n.apart m.apart in
    n.name ∙ (ap (λ (cause : EditError). name_of source cause n.first.front) same.0 ∙ (ap (name_of source m.cause) same.1 ∙ sym m.name))

-- ---- the next block

-- The blocks were taken, and `rest` are those of the source from there on.
pub record IsTakenTo (source : List ℕ) (blocks rest : List (List ℕ)) : Type 0 where
  pub whole : source_texts source ≡ blocks ++ rest
  pub taken : AreTaken blocks
  pub single : All OneBlock rest

pub taken_to_start : (source : List ℕ) → All OneBlock (source_texts source) → IsTakenTo source [] (source_texts source)
taken_to_start source single = record { whole = refl; taken = taken_none; single = single }

pub taken_to_next : (source : List ℕ) (blocks : List (List ℕ)) (block : List ℕ) (rest : List (List ℕ)) → IsTakenTo source blocks (block ∷ rest)
    → IsSoundEdit blocks (insertion (length blocks) block) → IsTakenTo source (blocks ++ block ∷ []) rest
taken_to_next source blocks block rest to sound = record {
  whole = to.whole ∙ sym (append_assoc blocks (block ∷ []) rest);
  taken = taken_more blocks block to.taken sound;
  single = All-tail OneBlock block rest to.single;
}

pub taken_to_end : (source : List ℕ) (blocks : List (List ℕ)) → IsTakenTo source blocks [] → (blocks ≡ source_texts source) × AreTaken (source_texts source)
taken_to_end source blocks to =
    let all : source_texts source ≡ blocks = to.whole ∙ append-nil blocks in
    (sym all, subst AreTaken (sym all) to.taken)

abbrev first_refused : (source : List ℕ) (blocks : List (List ℕ)) (block : List ℕ) (rest : List (List ℕ)) (cause : EditError)
    → IsTakenTo source blocks (block ∷ rest)
    → IsRefusal blocks (insertion (length blocks) block) cause → IsFirstRefused (source_texts source) cause
first_refused source blocks block rest cause to refused = record {
  front = blocks;
  block = block;
  back = rest;
  whole = to.whole;
  before = to.taken;
  refused = refused;
}

-- if a database does not take the blocks, memory ran out, or the source is refused
pub load_refused : (source : List ℕ) (error : EditError) → IsLoadRefusal source error → (error ≡ Memory)
    ⊎ ((refusal : SourceError) × IsSourceRefusal source refusal)
load_refused source Position refused = absurd refused
load_refused source TooLong refused = inr (source_error.BlockTooLong (line_after source refused.front), (refused, refl))
load_refused source NotOneBlock refused = absurd refused
load_refused source TooMany refused = inr (source_error.TooManyBlocks (line_after source refused.front), (refused, refl))
load_refused source Memory refused = inl refl

-- ---- each block of a source is one, once its last line is ended

pub ends_with_newline : (source : List ℕ) → last_byte 10 (with_last_newline source) ≡ 10
ends_with_newline source =
    elim (cases_Bool (last_byte 10 source == 10)) [
      | inl t ↦ rw t (eqb-true (last_byte 10 source) 10 t)
      | inr f ↦ rw f (last_byte-newline 10 source)
    ]

pub texts_single : BlocksAreSingle → EachHasCut → (source : List ℕ) → All OneBlock (source_texts source)
texts_single single cut source =
    let ended = with_last_newline source in
    single ended (front_of 10 ended) (blocks_from_head 10 ended) (ends_with_newline source) (cut ended)

-- ---- the source as it is

-- The blocks before `offset`, so many, are taken, and `rest` are the blocks from there on, as they
-- are.
pub record IsCheckedTo (source : List ℕ) (offset count : ℕ) (rest : List (List ℕ)) : Type 0 where
  pub seen : List ℕ
  pub blocks : List (List ℕ)
  pub whole : source ≡ seen ++ concat rest
  pub at : offset ≡ length seen
  pub many : count ≡ length blocks
  pub ends : AllButLastEnded rest
  pub to : IsTakenTo source blocks (map with_last_newline rest)
  pub line : (rest ≡ []) ⊎ (line_count seen + 1 ≡ first_line source + sum_by line_count blocks)

pub checked_to_start : (source preface : List ℕ) (blocks : List (List ℕ)) → All OneBlock (source_texts source) → Cut source preface blocks
    → preface ≡ front_of 10 source → blocks ≡ blocks_from_head 10 source → IsCheckedTo source (length preface) 0 blocks
checked_to_start source preface blocks single cut is_front is_blocks =
    let texts : source_texts source ≡ map with_last_newline blocks = texts_of-blocks source ∙ ap (map with_last_newline) (sym is_blocks) in
    record {
      seen = preface;
      blocks = [];
      whole = cut.whole;
      at = refl;
      many = refl;
      ends = rw is_blocks (blocks_of-all_but_last 10 source);
      to = record { whole = texts; taken = taken_none; single = subst (All OneBlock) texts single };
      line = elim (preface_of-front source) [
        | inl none ↦ inl (is_blocks ∙ none)
        | inr same ↦ inr (let front : line_count preface ≡ line_count (preface_of source) = ap line_count (is_front ∙ sym same) in omega (arith, front))
      ];
    }

all_but_last-rest : (block : List ℕ) (rest : List (List ℕ)) → AllButLastEnded (block ∷ rest) → AllButLastEnded rest
all_but_last-rest block [] ends = tt
all_but_last-rest block (next ∷ rest) ends = ends.1

-- the lines before the block after the next one
line_next : LinesAdd → (source seen : List ℕ) (blocks : List (List ℕ)) (block : List ℕ) (rest : List (List ℕ)) → AllButLastEnded (block ∷ rest)
    → (block ∷ rest ≡ []) ⊎ (line_count seen + 1 ≡ first_line source + sum_by line_count blocks)
    → (rest ≡ []) ⊎ (line_count (seen ++ block) + 1 ≡ first_line source + sum_by line_count (blocks ++ with_last_newline block ∷ []))
line_next add source seen blocks block rest ends (inl none) = absurd (cc)
line_next add source seen blocks block [] ends (inr e) = inl refl
line_next add source seen blocks block (next ∷ rest) ends (inr e) =
    let one : sum_by line_count (blocks ++ block ∷ []) ≡ sum_by line_count blocks + line_count block =
    sum_by-append line_count blocks (block ∷ []) ∙ (omega arith) in
    inr (rw ends.0 (omega (arith, e, one, add seen block)))

-- the next block is short enough, and not one too many
pub checked_to_next : LinesAdd → (source : List ℕ) (offset count : ℕ) (block : List ℕ) (rest : List (List ℕ))
    → IsCheckedTo source offset count (block ∷ rest) → length (with_last_newline block) ≤ block_bytes_max → count < blocks_max
    → IsCheckedTo source (offset + length block) (count + 1) rest
checked_to_next add source offset count block rest c short few = record {
  seen = c.seen ++ block;
  blocks = c.blocks ++ with_last_newline block ∷ [];
  whole = c.whole ∙ sym (append_assoc c.seen block (concat rest));
  at = (let joined : length (c.seen ++ block) ≡ length c.seen + length block = length-append c.seen block in omega (arith, c.at, joined));
  many = omega (arith, c.many, length-append c.blocks (with_last_newline block ∷ []));
  ends = all_but_last-rest block rest c.ends;
  to = taken_to_next source c.blocks (with_last_newline block) (map with_last_newline rest) c.to (record {
    in_place = (let end : length c.blocks ≤ length c.blocks = omega arith in end);
    short = short;
    block = All-head OneBlock (with_last_newline block) (map with_last_newline rest) c.to.single;
    room = (let room : length c.blocks < blocks_max = omega (arith, few, c.many) in room);
  });
  line = line_next add source c.seen c.blocks block rest c.ends c.line;
}

-- the line of the next block, as it is counted
line_seen : (source : List ℕ) (offset count : ℕ) (block : List ℕ) (rest : List (List ℕ)) (line : ℕ) (c : IsCheckedTo source offset count (block ∷ rest))
    → line ≡ line_count (take offset source) + 1 → line ≡ line_after source c.blocks
line_seen source offset count block rest line c is_line =
    let front : take offset source ≡ c.seen = ap (take offset) c.whole ∙ take_at c.seen (concat (block ∷ rest)) offset (sym c.at) in
    let seen : line ≡ line_count c.seen + 1 = is_line ∙ ap (λ (text : List ℕ). line_count text + 1) front in
    elim c.line [ inl none ↦ absurd (cc) | inr e ↦ seen ∙ e ]

-- the next block is too long
pub checked_too_long : (source : List ℕ) (offset count : ℕ) (block : List ℕ) (rest : List (List ℕ)) (line : ℕ)
    → IsCheckedTo source offset count (block ∷ rest) → (length (with_last_newline block) ≤ block_bytes_max → ⊥) → line ≡ line_count (take offset source) + 1
    → IsSourceRefusal source (source_error.BlockTooLong line)
checked_too_long source offset count block rest line c long is_line =
    let end : length c.blocks ≤ length c.blocks = omega arith in (
      first_refused source c.blocks (with_last_newline block) (map with_last_newline rest) TooLong c.to (end, long),
      line_seen source offset count block rest line c is_line,
    )

-- the next block is one too many
pub checked_too_many : (source : List ℕ) (offset count : ℕ) (block : List ℕ) (rest : List (List ℕ)) (line : ℕ)
    → IsCheckedTo source offset count (block ∷ rest) → length (with_last_newline block) ≤ block_bytes_max → blocks_max ≤ count
    → line ≡ line_count (take offset source) + 1
    → IsSourceRefusal source (source_error.TooManyBlocks line)
checked_too_many source offset count block rest line c short full is_line =
    let end : length c.blocks ≤ length c.blocks = omega arith in (
      first_refused source c.blocks (with_last_newline block) (map with_last_newline rest) TooMany c.to
          (end, short, All-head OneBlock (with_last_newline block) (map with_last_newline rest) c.to.single, λ room. omega (arith, full, room, c.many)),
      line_seen source offset count block rest line c is_line,
    )

-- ---- the refusal, computed

-- each of these blocks is short, and has room if so many are before the first of them
abbrev FitFrom : ℕ → List (List ℕ) → Type 0
FitFrom count texts = (front : List (List ℕ)) (block : List ℕ) (back : List (List ℕ)) → texts ≡ front ++ block ∷ back
    → (length block ≤ block_bytes_max) × (count + length front < blocks_max)

fit_later : (count : ℕ) (text : List ℕ) (texts : List (List ℕ)) → FitFrom count (text ∷ texts) → FitFrom (suc count) texts
fit_later count text texts fit front block back e =
    let here = fit (text ∷ front) block back (ap (λ (bs : List (List ℕ)). text ∷ bs) e) in
    let more : suc count + length front ≡ count + length (text ∷ front) = omega arith in
    (here.0, omega (arith, here.1, more))

pub taken_fit : (blocks : List (List ℕ)) → AreTaken blocks → FitFrom 0 blocks
taken_fit blocks taken front block back e =
    let sound = taken front block back e in
    let room : length front < blocks_max = sound.room in
    (sound.short, omega (arith, room))

-- of blocks that fit, none is refused
pub none_of-fit : (line count : ℕ) (texts : List (List ℕ)) → FitFrom count texts → refusal_from line count texts ≡ None
none_of-fit line count [] fit = refl
none_of-fit line count (text ∷ texts) fit =
    let here = fit [] text texts refl in
    let short : nat_lt block_bytes_max (length text) ≡ false = le-ltb block_bytes_max (length text) here.0 in
    let room : nat_le blocks_max count ≡ false = lt-leb blocks_max count (omega (arith, here.1)) in
    rw (short, room) (none_of-fit (line + line_count text) (suc count) texts (fit_later count text texts fit))

-- those at the front fit, and so what is refused is found after them
passed : (line count : ℕ) (front rest : List (List ℕ)) → FitFrom count front
    → refusal_from line count (front ++ rest) ≡ refusal_from (line + sum_by line_count front) (count + length front) rest
passed line count [] rest fit = rw (add-zero, add-zero) refl
passed line count (text ∷ front) rest fit =
    let here = fit [] text front refl in
    let short : nat_lt block_bytes_max (length text) ≡ false = le-ltb block_bytes_max (length text) here.0 in
    let room : nat_le blocks_max count ≡ false = lt-leb blocks_max count (omega (arith, here.1)) in
    let lines : line + line_count text + sum_by line_count front ≡ line + sum_by line_count (text ∷ front) =
    omega (arith, sum_by-append line_count (text ∷ []) front) in
    let counts : suc count + length front ≡ count + length (text ∷ front) = omega arith in
    rw (short, room) (passed (line + line_count text) (suc count) front rest (fit_later count text front fit)
    ∙ ap₂ (λ (l k : ℕ). refusal_from l k rest) lines counts)

pub taken_have_none : TakenSourcesHaveNone
taken_have_none source taken = none_of-fit (first_line source) 0 (source_texts source) (taken_fit (source_texts source) taken)

-- the refusal of the block after those that fit
found_long : (line count : ℕ) (block : List ℕ) (back : List (List ℕ)) → (length block ≤ block_bytes_max → ⊥)
    → refusal_from line count (block ∷ back) ≡ Some (source_error.BlockTooLong line)
found_long line count block back long =
    let t : nat_lt block_bytes_max (length block) ≡ true = lt-ltb block_bytes_max (length block) (omega (arith, long)) in
    rw t

found_many : (line count : ℕ) (block : List ℕ) (back : List (List ℕ)) → length block ≤ block_bytes_max → (count < blocks_max → ⊥)
    → refusal_from line count (block ∷ back) ≡ Some (source_error.TooManyBlocks line)
found_many line count block back short full =
    let f : nat_lt block_bytes_max (length block) ≡ false = le-ltb block_bytes_max (length block) short in
    let t : nat_le blocks_max count ≡ true = le-leb blocks_max count (omega (arith, full)) in
    rw (f, t)

found_after : (source : List ℕ) (cause : EditError) (r : IsFirstRefused (source_texts source) cause)
    → source_refusal source ≡ refusal_from (line_after source r.front) (length r.front) (r.block ∷ r.back)
found_after source cause r =
    ap (refusal_from (first_line source) 0) r.whole ∙ passed (first_line source) 0 r.front (r.block ∷ r.back) (taken_fit r.front r.before)
    ∙ ap (λ (k : ℕ). refusal_from (line_after source r.front) k (r.block ∷ r.back)) (zero-add (length r.front))

pub refusals_computed : RefusalsAreComputed
refusals_computed source (source_error.BlockTooLong line) r =
    found_after source TooLong r.0 ∙ found_long (line_after source r.0.front) (length r.0.front) r.0.block r.0.back r.0.refused.1
    ∙ ap (λ (l : ℕ). Some (source_error.BlockTooLong l)) (sym r.1)
refusals_computed source (source_error.TooManyBlocks line) r =
    found_after source TooMany r.0 ∙ found_many (line_after source r.0.front) (length r.0.front) r.0.block r.0.back r.0.refused.1 r.0.refused.3
    ∙ ap (λ (l : ℕ). Some (source_error.TooManyBlocks l)) (sym r.1)
