-- What is written of lines is read as they are, and each comment and blank line comes before the same items.
use Rattle.std.proofs.Common.{◌≡◌, ℕ, ◌+◌, ◌≤◌, false, cond, List, [], ◌∷◌, ◌++◌, map, append_assoc, refl, sym, ap, subst, ◌∙◌, inl, inr, arith}
use Rattle.std.specs.Prelude.{nat_le}
use Rattle.std.specs.List.{concat, filter}
use Rattle.std.proofs.lemmas.Bool.{cases_Bool}
use Rattle.std.proofs.lemmas.List.{map-append}
use Rattle.ti_source.specs.Cutting.{HasOneHead}
use Rattle.ti_source.specs.Folding.{PlacedByte}
use Rattle.ti_source.specs.Items.{ItemPiece, bytes, piece_of, without_front, without_white_front}
use Rattle.ti_source.specs.Walking.{block_items}
use Rattle.ti_source.specs.inside.Folding.{folding_of}
use Rattle.ti_source.specs.inside.Items.{after_field, on_line}
use Rattle.ti_source.specs.inside.Parsing.{block_field}
use Rattle.source_spans.proofs.Escaping.{items_of, nothing}
use Rattle.source_format.specs.Laws.{StandingLine, item_texts, standing_lines, texts_after}
use Rattle.source_format.specs.Layout.{columns}
use Rattle.source_format.specs.Pieces.{KeptLine, is_kept, kept_from, lines_of}
use Rattle.source_format.proofs.Cut.{bytes-on_line, items_computed}
use Rattle.source_kept_lines.specs.Layout.{after_line, lead}
use Rattle.source_kept_lines.specs.Parts.{after, parts}
use Rattle.source_kept_lines.specs.declared.parts.Reached.{Reached}
use Rattle.source_kept_lines.specs.declared.parts.Reached.TheVariants.{Names, NoItem}
use Rattle.source_kept_lines.proofs.Contents.{Content, content_is, not_kept, split}
use Rattle.source_kept_lines.proofs.Reaching.{Chain, after-append, no_more, one_more}
use Rattle.source_kept_lines.proofs.Rows.{IsIndent, indent_content, laid_line, relaid, rows, rows_of}
use Rattle.source_kept_lines.proofs.Laid.{lead_content, line_passes, parted, rows_parted}
use Rattle.source_kept_lines.proofs.Read.{UpTo, after_number, all_after, begun, but_first, cut_from, full, names_cut, parts_read, past, piece, texts}
use Rattle.source_kept_lines.proofs.Read.{texts_after_text, texts_read}
use Rattle.source_kept_lines.proofs.Folding.{above_placed, block_placed, bytes-placed, joined, placed}

-- ---- the texts of a block

pieces_are : (is : List (List PlacedByte)) → map piece_of is ≡ map piece (map without_front is)
pieces_are [] = refl
pieces_are (i ∷ is) = ap (λ (ps : List ItemPiece). piece_of i ∷ ps) (pieces_are is)

item_texts_are : (is : List (List PlacedByte)) → map (λ (i : List PlacedByte). (piece_of i).text) is ≡ map bytes (map without_front is)
item_texts_are [] = refl
item_texts_are (i ∷ is) = ap (λ (ts : List (List ℕ)). (piece_of i).text ∷ ts) (item_texts_are is)

-- the items of a block, by what is read of its lines
pub block_pieces : (block : List ℕ) → HasOneHead block → map piece_of (block_items block) ≡ map piece (begun Names (cut_from Names (placed 1 (lines_of block))))
block_pieces block head =
    let whole = folding_of block in
    ap (map piece_of) (items_computed block) ∙ pieces_are (items_of nothing 44 (after_field whole))
    ∙ ap (λ (is : List (List PlacedByte)). map piece (but_first is)) (sym (names_cut whole))
    ∙ ap (λ (s : List PlacedByte). map piece (but_first (cut_from Names s))) (block_placed block head)

pub block_texts : (block : List ℕ) → HasOneHead block → texts Names (joined (lines_of block)) ≡ block_field block ∷ item_texts block
block_texts block head =
    let whole = folding_of block in
    ap (texts Names) (sym (bytes-placed 1 (lines_of block)) ∙ ap bytes (sym (block_placed block head)))
    ∙ sym (texts_read Names whole) ∙ ap (map bytes) (names_cut whole)
    ∙ ap (λ (ts : List (List ℕ)). block_field block ∷ ts) (sym (item_texts_are (items_of nothing 44 (after_field whole)))
    ∙ ap (map (λ (i : List PlacedByte). (piece_of i).text)) (sym (items_computed block)))

-- ---- comments and blank lines, each before the items after it

abbrev standing : List ℕ → List (List ℕ) → StandingLine
standing text later = record { text = text; later = later }

abbrev pub stands : Reached → List (List ℕ) → List StandingLine
stands r [] = []
stands r (l ∷ ls) = cond (is_kept l) (standing l (full (begun r (texts r (joined ls)))) ∷ stands r ls) (stands (after r (without_white_front l)) ls)

up-append : (number : ℕ) (s t : List PlacedByte) → UpTo number s → UpTo number t → UpTo number (s ++ t)
up-append number [] t a b = b
up-append number (x ∷ xs) t a b = (a.0, up-append number xs t a.1 b)

up-more : (low number : ℕ) (s : List PlacedByte) → low ≤ number → UpTo low s → UpTo number s
up-more low number [] h up = tt
up-more low number (x ∷ xs) h up = (omega (arith, up.0, h), up-more low number xs h up.1)

up-line : (number : ℕ) (u : List ℕ) → UpTo number (on_line number u)
up-line number [] = tt
up-line number (x ∷ u) = (omega arith, up-line number u)

abbrev counted : List (List PlacedByte) → KeptLine → StandingLine
counted is k = standing k.text (texts_after k.number (map piece is))

-- lines from a number on, after what was read before
stands_from : (n : ℕ) (s : List PlacedByte) (r : Reached) (ls : List (List ℕ)) → UpTo n s → r ≡ after Names (bytes s)
    → map (counted (begun Names (cut_from Names (s ++ placed n ls)))) (kept_from n ls) ≡ stands r ls
stands_from n s r [] up e = refl
stands_from n s r (l ∷ ls) up e =
    let low : UpTo (n + 1) s = up-more n (n + 1) s (omega arith) up in
    elim (cases_Bool (is_kept l)) [
      | inl t ↦
          let rest = placed (n + 1) ls in
          let here : texts_after n (map piece (begun Names (cut_from Names (s ++ rest)))) ≡ full (begun r (texts r (joined ls))) =
          past n Names s rest up ∙ ap (λ (q : Reached). after_number n q rest) (sym e) ∙ all_after n r rest (above_placed n (n + 1) ls (omega arith))
          ∙ ap (λ (u : List ℕ). full (begun r (texts r u))) (bytes-placed (n + 1) ls) in
          rw t (ap (λ (later : List (List ℕ)). standing l later ∷ map (counted (begun Names (cut_from Names (s ++ rest)))) (kept_from (n + 1) ls)) here
          ∙ ap (λ (ss : List StandingLine). standing l (full (begun r (texts r (joined ls)))) ∷ ss) (stands_from (n + 1) s r ls low e))
      | inr f ↦
          let u = without_white_front l in
          let more = s ++ on_line n u in
          let reached : after r u ≡ after Names (bytes more) =
          ap (λ (q : Reached). after q u) e ∙ sym (after-append Names (bytes s) u)
          ∙ ap (after Names) (ap (λ (v : List ℕ). bytes s ++ v) (sym (bytes-on_line n u)) ∙ sym (map-append (λ (x : PlacedByte). x.0) s (on_line n u))) in
          rw f (ap (λ (t : List PlacedByte). map (counted (begun Names (cut_from Names t))) (kept_from (n + 1) ls)) (sym (append_assoc s (on_line n u) (placed (n + 1) ls)))
          ∙ stands_from (n + 1) more (after r u) ls (up-append (n + 1) s (on_line n u) low (up-more n (n + 1) (on_line n u) (omega arith) (up-line n u))) reached)
    ]

pub block_stands : (block : List ℕ) → HasOneHead block → standing_lines block ≡ stands Names (lines_of block)
block_stands block head =
    ap (λ (ps : List ItemPiece). map (λ (k : KeptLine). standing k.text (texts_after k.number ps)) (kept_from 1 (lines_of block))) (block_pieces block head)
    ∙ stands_from 1 [] Names (lines_of block) tt refl

-- ---- what is written

module _ (w : ℕ) (i : List ℕ) (indent : IsIndent i) where
  joined_row : (front : List ℕ) (x : ℕ) (u : List ℕ) (ls : List (List ℕ)) → Content front x → joined ((front ++ x ∷ u) ∷ ls) ≡ x ∷ u ++ joined ls
  joined_row front x u ls c = rw (not_kept front x u c, content_is front x u c.white c.visible) refl

  rows_read : (r : Reached) (front : List ℕ) (x : ℕ) (u : List ℕ) (s : Reached) (ps ls : List (List ℕ)) → Content front x → after r (x ∷ u) ≡ s → Chain s ps
      → texts r (joined (rows w i (front ++ x ∷ u) ps ++ ls)) ≡ texts r (x ∷ u ++ (concat ps ++ joined ls))
  rows_read r front x u s _ ls c e (no_more _) = ap (texts r) (joined_row front x u ls c)
  rows_read r front x u _ _ ls c e (one_more y p ps v is chain) =
      elim (cases_Bool (nat_le (columns (front ++ x ∷ u) + 1 + columns (y ∷ p)) w)) [
        | inl t ↦
            let rest = concat ps ++ joined ls in
            let reached = after-append r (x ∷ u) (32 ∷ y ∷ p) ∙ ap (λ (q : Reached). after q (32 ∷ y ∷ p)) e in
            rw t (ap (λ (line : List ℕ). texts r (joined (rows w i line ps ++ ls))) (append_assoc front (x ∷ u) (32 ∷ y ∷ p))
            ∙ rows_read r front x (u ++ 32 ∷ y ∷ p) (after NoItem (y ∷ p)) ps ls c reached chain
            ∙ ap (texts r) (append_assoc (x ∷ u) (32 ∷ y ∷ p) rest)
            ∙ texts_after_text r (x ∷ u) (32 ∷ y ∷ p ++ rest) (y ∷ p ++ rest) (subst (λ (q : Reached). texts q (32 ∷ y ∷ p ++ rest) ≡ texts q (y ∷ p ++ rest)) (sym e) refl)
            ∙ ap (λ (z : List ℕ). texts r (x ∷ u ++ z)) (sym (append_assoc (y ∷ p) (concat ps) (joined ls))))
        | inr g ↦
            let next = rows w i (i ++ y ∷ p) ps ++ ls in
            let rest = concat ((y ∷ p) ∷ ps) ++ joined ls in
            let later : texts NoItem (joined next) ≡ texts NoItem rest =
            rows_read NoItem i y p (after NoItem (y ∷ p)) ps ls (indent_content w i indent y v) refl chain
            ∙ ap (texts NoItem) (sym (append_assoc (y ∷ p) (concat ps) (joined ls))) in
            rw g (ap (texts r) (joined_row front x u next c)
            ∙ texts_after_text r (x ∷ u) (joined next) rest (subst (λ (q : Reached). texts q (joined next) ≡ texts q rest) (sym e) later))
      ]

  -- a line as it is written
  line_read : (r : Reached) (l : List ℕ) (ls : List (List ℕ)) → is_kept l ≡ false
      → texts r (joined (rows_of w i (lead i r l) (parts r (without_white_front l)) ++ ls)) ≡ texts r (without_white_front l ++ joined ls)
  line_read r l ls k =
      let s = split l k in
      let p = parted r s.byte s.rest s.is.visible in
      let whole : concat ((s.byte ∷ p.part) ∷ p.later) ≡ concat (parts r (without_white_front l)) =
      ap concat (sym p.are) ∙ ap (λ (u : List ℕ). concat (parts r u)) (sym s.content) in
      ap (λ (ms : List (List ℕ)). texts r (joined (ms ++ ls))) (rows_parted w i indent r l k p)
      ∙ rows_read r (lead i r l) s.byte p.part (after r (s.byte ∷ p.part)) p.later ls (lead_content w i indent r l s.byte s.is) refl p.chain
      ∙ ap (texts r) (sym (append_assoc (s.byte ∷ p.part) (concat p.later) (joined ls)))
      ∙ ap (λ (u : List ℕ). texts r (u ++ joined ls)) whole ∙ parts_read r (without_white_front l) (joined ls)

  pub relaid_read : (r : Reached) (ls : List (List ℕ)) → texts r (joined (relaid w i r ls)) ≡ texts r (joined ls)
  relaid_read r [] = refl
  relaid_read r (l ∷ ls) =
      elim (cases_Bool (is_kept l)) [
        | inl t ↦ rw (t, t) (relaid_read r ls)
        | inr f ↦
            let u = without_white_front l in
            rw f (line_read r l (relaid w i (after r u) ls) f
            ∙ texts_after_text r u (joined (relaid w i (after r u) ls)) (joined ls) (relaid_read (after r u) ls))
      ]

  laid_content : (r : Reached) (l : List ℕ) → is_kept l ≡ false → laid_line w i r l ≡ rows_of w i (lead i r l) (parts r (without_white_front l))
  laid_content r l k = rw k refl

  stands_pass : (r : Reached) (front : List ℕ) (x : ℕ) (u : List ℕ) (ls : List (List ℕ)) → Content front x
      → stands r ((front ++ x ∷ u) ∷ ls) ≡ stands (after r (x ∷ u)) ls
  stands_pass r front x u ls c = rw (not_kept front x u c, content_is front x u c.white c.visible) refl

  pub relaid_stands : (r : Reached) (ls : List (List ℕ)) → stands r (relaid w i r ls) ≡ stands r ls
  relaid_stands r [] = refl
  relaid_stands r (l ∷ ls) =
      elim (cases_Bool (is_kept l)) [
        | inl t ↦ rw (t, t) (
            ap (λ (ts : List (List ℕ)). standing l (full (begun r ts)) ∷ stands r (relaid w i r ls)) (relaid_read r ls)
            ∙ ap (λ (ss : List StandingLine). standing l (full (begun r (texts r (joined ls)))) ∷ ss) (relaid_stands r ls))
        | inr f ↦
            let next = relaid w i (after_line r l) ls in
            let line : stands r (relaid w i r (l ∷ ls)) ≡ stands (after_line r l) next =
            ap (λ (ms : List (List ℕ)). stands r (ms ++ next)) (laid_content r l f) ∙ line_passes w i indent stands stands_pass r l next f in
            line ∙ relaid_stands (after_line r l) ls ∙ (rw f refl)
      ]

  kept_pass : (r : Reached) (front : List ℕ) (x : ℕ) (u : List ℕ) (ls : List (List ℕ)) → Content front x → filter is_kept ((front ++ x ∷ u) ∷ ls) ≡ filter is_kept ls
  kept_pass r front x u ls c = rw (not_kept front x u c) refl

  pub relaid_kept : (r : Reached) (ls : List (List ℕ)) → filter is_kept (relaid w i r ls) ≡ filter is_kept ls
  relaid_kept r [] = refl
  relaid_kept r (l ∷ ls) =
      elim (cases_Bool (is_kept l)) [
        | inl t ↦ rw (t, t) (ap (λ (ks : List (List ℕ)). l ∷ ks) (relaid_kept r ls))
        | inr f ↦
            let next = relaid w i (after_line r l) ls in
            let rest : filter is_kept (relaid w i r (l ∷ ls)) ≡ filter is_kept next =
            ap (λ (ms : List (List ℕ)). filter is_kept (ms ++ next)) (laid_content r l f)
            ∙ line_passes w i indent (λ (q : Reached) (ks : List (List ℕ)). filter is_kept ks) kept_pass r l next f in
            rest ∙ relaid_kept (after_line r l) ls ∙ (rw f refl)
      ]
