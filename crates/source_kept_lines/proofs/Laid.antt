-- The lines of a block are laid, once they are written, and then have the same indent.
use Rattle.std.proofs.Common.{◌≡◌, ◌==◌, ◌+◌, ℕ, Bool, true, false, List, [], ◌∷◌, ◌++◌, append_assoc, refl, sym, ap, subst, ◌∙◌, inl, inr}
use Rattle.std.specs.Prelude.{nat_le}
use Rattle.std.proofs.lemmas.Bool.{cases_Bool}
use Rattle.std.proofs.lemmas.List.{append-nil}
use Rattle.ti_text.specs.WhiteSpace.{is_white_space}
use Rattle.ti_source.specs.Items.{without_white_front}
use Rattle.source_format.specs.Layout.{columns}
use Rattle.source_format.specs.Pieces.{is_kept, with_first_byte}
use Rattle.source_format.proofs.Folded.{IsOneLine, one_line-append}
use Rattle.source_kept_lines.specs.Layout.{after_line, indent_from, lead, white_front}
use Rattle.source_kept_lines.specs.Parts.{after, after_byte, is_between, is_gap, parts}
use Rattle.source_kept_lines.specs.declared.parts.Reached.{Reached}
use Rattle.source_kept_lines.specs.declared.parts.Reached.TheVariants.{NoItem}
use Rattle.source_kept_lines.proofs.Contents.{Content, content_is, front_is, line-append-right, not_kept, split, white_line}
use Rattle.source_kept_lines.proofs.Reaching.{Chain, Cut, IsPart, after-append, after_all, after_parts, between, cut_of, first_part, no_gap, no_more, one_more, part_first, step_of}
use Rattle.source_kept_lines.proofs.Rows.{AllLines, AreLaid, Begins, IsIndent, first_so_far, indent_begins, indent_content, kept_line, no_line, relaid}
use Rattle.source_kept_lines.proofs.Rows.{rows, rows_are, rows_of}

-- ---- parts are on a line

byte_lines : (x : ℕ) (ps : List (List ℕ)) → (x == 10) ≡ false → AllLines ps → AllLines (with_first_byte x ps)
byte_lines x [] n all = ((n, tt), tt)
byte_lines x (p ∷ ps) n all = ((n, all.0), all.1)

pub parts_lines : (r : Reached) (s : List ℕ) → IsOneLine s → AllLines (parts r s)
parts_lines r [] one = tt
parts_lines r (x ∷ xs) one =
    let later = parts_lines (after_byte r x) xs one.1 in
    elim (step_of r x) [
      | inl g ↦ rw g.gap later
      | inr (inl e) ↦ rw (e.gap, e.end) ((one.0, tt), later)
      | inr (inr w) ↦ rw (w.gap, w.end) (byte_lines x (parts (after_byte r x) xs) one.0 later)
    ]

-- a byte that is no white space is none before an item
pub visible_gap : (r : Reached) (x : ℕ) → is_white_space x ≡ false → is_gap r x ≡ false
visible_gap r x v =
    elim (cases_Bool (is_between r)) [
      | inl t ↦ subst (λ (q : Reached). is_gap q x ≡ false) (sym (between r t)) v
      | inr f ↦ no_gap r x f
    ]

-- the first part of a content, and those after it
pub record Parted (r : Reached) (x : ℕ) (xs : List ℕ) : Type 0 where
  pub part : List ℕ
  pub later : List (List ℕ)
  pub are : parts r (x ∷ xs) ≡ (x ∷ part) ∷ later
  pub is_part : IsPart r (x ∷ part)
  pub chain : Chain (after r (x ∷ part)) later

cut_parts : (r : Reached) (p : List ℕ) (ps : List (List ℕ)) → Cut r (p ∷ ps) → IsPart r p × Chain (after r p) ps
cut_parts r _ _ (first_part _ p ps is chain) = (is, chain)

pub parted : (r : Reached) (x : ℕ) (xs : List ℕ) → is_white_space x ≡ false → Parted r x xs
parted r x xs v =
    let found = part_first r x xs (visible_gap r x v) in
    let cut = cut_parts r (x ∷ found.0) found.1 (subst (Cut r) found.2 (cut_of r (x ∷ xs))) in
    record { part = found.0; later = found.1; are = found.2; is_part = cut.0; chain = cut.1 }

-- what is reached by them
pub parted_after : (r : Reached) (x : ℕ) (xs : List ℕ) (p : Parted r x xs) → after_all (after r (x ∷ p.part)) p.later ≡ after r (x ∷ xs)
parted_after r x xs p = ap (after_all r) (sym p.are) ∙ after_parts r (x ∷ xs)

-- ---- lines

-- no line but the first begins as a head line does
abbrev pub AllBegin : Bool → List (List ℕ) → Type 0
AllBegin first [] = Unit {0}
AllBegin first (l ∷ ls) = (is_kept l ≡ false → Begins first (white_front l)) × AllBegin false ls

module _ (w : ℕ) (i : List ℕ) (indent : IsIndent i) where
  pub lead_content : (r : Reached) (l : List ℕ) (x : ℕ) → Content (white_front l) x → Content (lead i r l) x
  lead_content r l x c =
      elim (cases_Bool (is_between r)) [ inl t ↦ rw t (indent_content w i indent x c.visible) | inr f ↦ rw f c ]

  lead_indented : (r : Reached) (l : List ℕ) → is_between r ≡ true → i ≡ lead i r l
  lead_indented r l t = rw t refl

  any_begins : (first : Bool) → Begins first i
  any_begins true = tt
  any_begins false = indent_begins w i indent

  lead_begins : (first : Bool) (r : Reached) (l : List ℕ) → Begins first (white_front l) → Begins first (lead i r l)
  lead_begins first r l b =
      elim (cases_Bool (is_between r)) [ inl t ↦ rw t (any_begins first) | inr f ↦ rw f b ]

  -- the rows of a line
  pub rows_parted : (r : Reached) (l : List ℕ) (k : is_kept l ≡ false) → (p : Parted r (split l k).byte (split l k).rest)
      → rows_of w i (lead i r l) (parts r (without_white_front l)) ≡ rows w i (lead i r l ++ (split l k).byte ∷ p.part) p.later
  rows_parted r l k p = ap (λ (s : List ℕ). rows_of w i (lead i r l) (parts r s)) (split l k).content ∙ ap (rows_of w i (lead i r l)) p.are

  pub after_split : (r : Reached) (l : List ℕ) (k : is_kept l ≡ false) (p : Parted r (split l k).byte (split l k).rest)
      → after_all (after r ((split l k).byte ∷ p.part)) p.later ≡ after_line r l
  after_split r l k p =
      parted_after r (split l k).byte (split l k).rest p ∙ ap (after r) (sym (split l k).content) ∙ (rw k refl)

  pub relaid_laid : (first : Bool) (r : Reached) (ls : List (List ℕ)) → AllLines ls → AllBegin first ls → AreLaid w i first r (relaid w i r ls)
  relaid_laid first r [] lines begin = no_line first r
  relaid_laid first r (l ∷ ls) lines begin =
      elim (cases_Bool (is_kept l)) [
        | inl t ↦ rw t (kept_line first r l (relaid w i r ls) t lines.0 (relaid_laid false r ls lines.1 begin.1))
        | inr f ↦
            let s = split l f in
            let p = parted r s.byte s.rest s.is.visible in
            let front = lead i r l in
            let content = lead_content r l s.byte s.is in
            let text : IsOneLine (s.byte ∷ s.rest) = line-append-right (white_front l) (s.byte ∷ s.rest) (subst IsOneLine s.whole lines.0) in
            let pieces : AllLines ((s.byte ∷ p.part) ∷ p.later) = subst AllLines p.are (parts_lines r (s.byte ∷ s.rest) text) in
            let far = first_so_far w i indent r front s.byte p.part content (lead_indented r l) p.is_part
            (one_line-append front (s.byte ∷ p.part) (white_line front content.white) pieces.0) in
            let next = relaid w i (after_line r l) ls in
            let later = subst (λ (q : Reached). AreLaid w i false q next) (sym (after_split r l f p)) (relaid_laid false (after_line r l) ls lines.1 begin.1) in
            let all = rows_are w i indent first r front s.byte p.part (after r (s.byte ∷ p.part)) p.later next
            (lead_begins first r l (begin.0 f)) far p.chain pieces.1 later in
            subst (λ (ms : List (List ℕ)). AreLaid w i first r (ms ++ next)) (sym (rows_parted r l f p) ∙ (rw f refl)) all
      ]

  -- ---- what goes on from line to line, and looks at no line that has content

  module _ {A : Type 0} (f : Reached → List (List ℕ) → A)
      (passes : (r : Reached) (front : List ℕ) (x : ℕ) (u : List ℕ) (ls : List (List ℕ)) → Content front x → f r ((front ++ x ∷ u) ∷ ls) ≡ f (after r (x ∷ u)) ls) where
    over : (front : List ℕ) (x : ℕ) (u p : List ℕ) → front ++ x ∷ u ++ 32 ∷ p ≡ front ++ x ∷ (u ++ 32 ∷ p)
    over front x u p = append_assoc front (x ∷ u) (32 ∷ p)

    pub rows_pass : (r : Reached) (front : List ℕ) (x : ℕ) (u : List ℕ) (s : Reached) (ps ls : List (List ℕ)) → Content front x → after r (x ∷ u) ≡ s
        → Chain s ps → f r (rows w i (front ++ x ∷ u) ps ++ ls) ≡ f (after_all s ps) ls
    rows_pass r front x u s _ ls c e (no_more _) = passes r front x u ls c ∙ ap (λ (q : Reached). f q ls) e
    rows_pass r front x u _ _ ls c e (one_more y p ps v is chain) =
        elim (cases_Bool (nat_le (columns (front ++ x ∷ u) + 1 + columns (y ∷ p)) w)) [
          | inl t ↦ rw t (ap (λ (line : List ℕ). f r (rows w i line ps ++ ls)) (over front x u (y ∷ p))
              ∙ rows_pass r front x (u ++ 32 ∷ y ∷ p) (after NoItem (y ∷ p)) ps ls c
              (after-append r (x ∷ u) (32 ∷ y ∷ p) ∙ ap (λ (q : Reached). after q (32 ∷ y ∷ p)) e) chain)
          | inr g ↦ rw g (passes r front x u (rows w i (i ++ y ∷ p) ps ++ ls) c
              ∙ ap (λ (q : Reached). f q (rows w i (i ++ y ∷ p) ps ++ ls)) e
              ∙ rows_pass NoItem i y p (after NoItem (y ∷ p)) ps ls (indent_content w i indent y v) refl chain)
        ]

    -- a line as it is written
    pub line_passes : (r : Reached) (l : List ℕ) (ls : List (List ℕ)) → is_kept l ≡ false
        → f r (rows_of w i (lead i r l) (parts r (without_white_front l)) ++ ls) ≡ f (after_line r l) ls
    line_passes r l ls k =
        let s = split l k in
        let p = parted r s.byte s.rest s.is.visible in
        let content = lead_content r l s.byte s.is in
        ap (λ (ms : List (List ℕ)). f r (ms ++ ls)) (rows_parted r l k p)
        ∙ rows_pass r (lead i r l) s.byte p.part (after r (s.byte ∷ p.part)) p.later ls content refl p.chain
        ∙ ap (λ (q : Reached). f q ls) (after_split r l k p)

  -- ---- the indent stays

  -- the first row of a line
  pub row_first : (line : List ℕ) (ps : List (List ℕ)) → (more : List ℕ) × (ms : List (List ℕ)) × (rows w i line ps ≡ (line ++ more) ∷ ms)
  row_first line [] = ([], [], ap (λ (t : List ℕ). t ∷ []) (sym (append-nil line)))
  row_first line (p ∷ ps) =
      elim (cases_Bool (nat_le (columns line + 1 + columns p) w)) [
        | inl t ↦
            let later = row_first (line ++ 32 ∷ p) ps in
            rw t (32 ∷ p ++ later.0, later.1, later.2 ∙ ap (λ (s : List ℕ). s ∷ later.1) (append_assoc line (32 ∷ p) later.0))
        | inr f ↦ rw f ([], rows w i (i ++ p) ps, ap (λ (s : List ℕ). s ∷ rows w i (i ++ p) ps) (sym (append-nil line)))
      ]

  indent_seen : (r : Reached) (y : ℕ) (u : List ℕ) (ps ls : List (List ℕ)) → is_between r ≡ true → is_white_space y ≡ false
      → indent_from r (rows w i (i ++ y ∷ u) ps ++ ls) ≡ i
  indent_seen r y u ps ls b v =
      let found = row_first (i ++ y ∷ u) ps in
      let line : i ++ y ∷ u ++ found.0 ≡ i ++ y ∷ (u ++ found.0) = append_assoc i (y ∷ u) found.0 in
      let c = indent_content w i indent y v in
      ap (λ (ms : List (List ℕ)). indent_from r (ms ++ ls)) (found.2 ∙ ap (λ (s : List ℕ). s ∷ found.1) line)
      ∙ (rw (not_kept i y (u ++ found.0) c, b) (front_is i y (u ++ found.0) indent.white v))

  rows_indent : (r : Reached) (front : List ℕ) (x : ℕ) (u : List ℕ) (s : Reached) (ps ls : List (List ℕ)) → Content front x → is_between r ≡ false
      → after r (x ∷ u) ≡ s → Chain s ps → indent_from (after_all s ps) ls ≡ i → indent_from r (rows w i (front ++ x ∷ u) ps ++ ls) ≡ i
  rows_indent r front x u s _ ls c b e (no_more _) known =
      rw (not_kept front x u c, b, content_is front x u c.white c.visible) (ap (λ (q : Reached). indent_from q ls) e ∙ known)
  rows_indent r front x u _ _ ls c b e (one_more y p ps v is chain) known =
      elim (cases_Bool (nat_le (columns (front ++ x ∷ u) + 1 + columns (y ∷ p)) w)) [
        | inl t ↦ rw t (ap (λ (line : List ℕ). indent_from r (rows w i line ps ++ ls)) (append_assoc front (x ∷ u) (32 ∷ y ∷ p))
            ∙ rows_indent r front x (u ++ 32 ∷ y ∷ p) (after NoItem (y ∷ p)) ps ls c b
            (after-append r (x ∷ u) (32 ∷ y ∷ p) ∙ ap (λ (q : Reached). after q (32 ∷ y ∷ p)) e) chain known)
        | inr g ↦ rw g (rw (not_kept front x u c, b, content_is front x u c.white c.visible)
            (ap (λ (q : Reached). indent_from q (rows w i (i ++ y ∷ p) ps ++ ls)) e ∙ indent_seen NoItem y p ps ls refl v))
      ]

  pub indent_again : (r : Reached) (ls : List (List ℕ)) → indent_from r ls ≡ i → indent_from r (relaid w i r ls) ≡ i
  indent_again r [] known = known
  indent_again r (l ∷ ls) known =
      elim (cases_Bool (is_kept l)) [
        | inl t ↦ rw (t, t) (indent_again r ls (rw t at known))
        | inr f ↦
            let s = split l f in
            let p = parted r s.byte s.rest s.is.visible in
            let next = relaid w i (after_line r l) ls in
            let whole : relaid w i r (l ∷ ls) ≡ rows w i (lead i r l ++ s.byte ∷ p.part) p.later ++ next =
            rw f (ap (λ (ms : List (List ℕ)). ms ++ relaid w i (after r (without_white_front l)) ls) (rows_parted r l f p)) in
            ap (indent_from r) whole ∙ elim (cases_Bool (is_between r)) [
              | inl b ↦ rw b (indent_seen r s.byte p.part p.later next b s.is.visible)
              | inr b ↦
                  let later : indent_from (after_line r l) ls ≡ i = rw f (rw (f, b) at known) in
                  rows_indent r (lead i r l) s.byte p.part (after r (s.byte ∷ p.part)) p.later next (lead_content r l s.byte s.is) b refl p.chain
                  (ap (λ (q : Reached). indent_from q next) (after_split r l f p) ∙ indent_again (after_line r l) ls later)
            ]
      ]
