-- The lines that are written, as lines: how a line is broken, and that it is broken no more.
use Rattle.std.proofs.Common.{◌≡◌, ◌≢◌, ◌≤◌, ◌+◌, ℕ, Bool, true, false, cond, List, [], ◌∷◌, ◌++◌, append_assoc, refl, sym, ap, subst, ◌∙◌, inl, inr, arith}
use Rattle.std.specs.Prelude.{nat_le}
use Rattle.std.specs.List.{list_all}
use Rattle.std.proofs.lemmas.Bool.{cases_Bool, leb-true}
use Rattle.std.proofs.lemmas.List.{append-nil}
use Rattle.ti_text.specs.WhiteSpace.{is_white_space}
use Rattle.ti_source.specs.Items.{without_white_front}
use Rattle.source_format.specs.Layout.{columns}
use Rattle.source_format.specs.Pieces.{is_kept, lines_of}
use Rattle.source_format.proofs.Columns.{columns-append}
use Rattle.source_format.proofs.Folded.{IsOneLine, one_line-append}
use Rattle.source_format.proofs.Numbered.{lines_of-line}
use Rattle.source_kept_lines.specs.Laws.{FitsLine, FitsFrom}
use Rattle.source_kept_lines.specs.Layout.{after_line, any_text, filled, lead, lines_text, parts_text}
use Rattle.source_kept_lines.specs.Parts.{after, is_between, parts}
use Rattle.source_kept_lines.specs.declared.parts.Reached.{Reached}
use Rattle.source_kept_lines.specs.declared.parts.Reached.TheVariants.{NoItem}
use Rattle.source_kept_lines.proofs.Contents.{Content, NoComment, content_is, front_is, not_kept, white_line}
use Rattle.source_kept_lines.proofs.Reaching.{Chain, IsPart, after-append, after_all, no_more, one_more, parts_over}

-- ---- lines

abbrev pub AllLines : List (List ℕ) → Type 0
AllLines [] = Unit {0}
AllLines (l ∷ ls) = IsOneLine l × AllLines ls

-- lines, each with the newline that ends it
abbrev pub unlines : List (List ℕ) → List ℕ
unlines [] = []
unlines (l ∷ ls) = l ++ 10 ∷ unlines ls

pub unlines-append : (ls ms : List (List ℕ)) → unlines (ls ++ ms) ≡ unlines ls ++ unlines ms
unlines-append [] ms = refl
unlines-append (l ∷ ls) ms = ap (λ (t : List ℕ). l ++ 10 ∷ t) (unlines-append ls ms) ∙ sym (append_assoc l (10 ∷ unlines ls) (unlines ms))

pub lines_back : (ls : List (List ℕ)) → AllLines ls → lines_of (unlines ls) ≡ ls
lines_back [] all = refl
lines_back (l ∷ ls) all = lines_of-line l (unlines ls) all.0 ∙ ap (λ (ms : List (List ℕ)). l ∷ ms) (lines_back ls all.1)

-- what a new line has in front: white space
pub record IsIndent (i : List ℕ) : Type 0 where
  pub white : list_all is_white_space i ≡ true
  pub some : i ≢ []

-- a line begins with white space, if it is not the first
abbrev pub Begins : Bool → List ℕ → Type 0
Begins true front = Unit {0}
Begins false [] = ⊥
Begins false (y ∷ ys) = Unit {0}

module _ (w : ℕ) (i : List ℕ) where
  -- a line so far, and parts that come after it
  abbrev pub rows : List ℕ → List (List ℕ) → List (List ℕ)
  rows line [] = line ∷ []
  rows line (p ∷ ps) = cond (nat_le (columns line + 1 + columns p) w) (rows (line ++ 32 ∷ p) ps) (line ∷ rows (i ++ p) ps)

  abbrev pub rows_of : List ℕ → List (List ℕ) → List (List ℕ)
  rows_of front [] = front ∷ []
  rows_of front (p ∷ ps) = rows (front ++ p) ps

  abbrev pub laid_line : Reached → List ℕ → List (List ℕ)
  laid_line r l = cond (is_kept l) (l ∷ []) (rows_of (lead i r l) (parts r (without_white_front l)))

  abbrev pub relaid : Reached → List (List ℕ) → List (List ℕ)
  relaid r [] = []
  relaid r (l ∷ ls) = laid_line r l ++ relaid (after_line r l) ls

  -- ---- they are what is written

  columns_after : (line p : List ℕ) → columns (line ++ 32 ∷ p) ≡ columns line + 1 + columns p
  columns_after line p = columns-append line (32 ∷ p) ∙ omega arith

  rows_text : (line : List ℕ) (ps : List (List ℕ)) (s : List ℕ) → line ++ filled w i (columns line) ps ++ 10 ∷ s ≡ unlines (rows line ps) ++ s
  rows_text line [] s = ap (λ (t : List ℕ). t ++ 10 ∷ s) (append-nil line) ∙ sym (append_assoc line (10 ∷ []) s)
  rows_text line (p ∷ ps) s =
      elim (cases_Bool (nat_le (columns line + 1 + columns p) w)) [
        | inl t ↦ rw t (
            ap (λ (u : List ℕ). u ++ 10 ∷ s) (sym (append_assoc line (32 ∷ p) (filled w i (columns line + 1 + columns p) ps)))
            ∙ ap (λ (column : ℕ). line ++ 32 ∷ p ++ filled w i column ps ++ 10 ∷ s) (sym (columns_after line p))
            ∙ rows_text (line ++ 32 ∷ p) ps s)
        | inr f ↦ rw f (
            append_assoc line (10 ∷ (i ++ p ++ filled w i (columns i + columns p) ps)) (10 ∷ s)
            ∙ ap (λ (column : ℕ). line ++ 10 ∷ (i ++ p ++ filled w i column ps ++ 10 ∷ s)) (sym (columns-append i p))
            ∙ ap (λ (t : List ℕ). line ++ 10 ∷ t) (rows_text (i ++ p) ps s)
            ∙ sym (append_assoc line (10 ∷ unlines (rows (i ++ p) ps)) s))
      ]

  parts_rows : (front : List ℕ) (ps : List (List ℕ)) (s : List ℕ) → parts_text w i front ps ++ 10 ∷ s ≡ unlines (rows_of front ps) ++ s
  parts_rows front [] s = sym (append_assoc front (10 ∷ []) s)
  parts_rows front (p ∷ ps) s =
      ap (λ (column : ℕ). front ++ p ++ filled w i column ps ++ 10 ∷ s) (sym (columns-append front p)) ∙ rows_text (front ++ p) ps s

  line_rows : (r : Reached) (l s : List ℕ) → any_text w i r l ++ 10 ∷ s ≡ unlines (laid_line r l) ++ s
  line_rows r l s =
      elim (cases_Bool (is_kept l)) [
        | inl t ↦ rw t (sym (append_assoc l (10 ∷ []) s))
        | inr f ↦ rw f (parts_rows (lead i r l) (parts r (without_white_front l)) s)
      ]

  pub text_rows : (r : Reached) (ls : List (List ℕ)) → lines_text w i r ls ≡ unlines (relaid r ls)
  text_rows r [] = refl
  text_rows r (l ∷ ls) =
      line_rows r l (lines_text w i (after_line r l) ls)
      ∙ ap (λ (t : List ℕ). unlines (laid_line r l) ++ t) (text_rows (after_line r l) ls)
      ∙ sym (unlines-append (laid_line r l) (relaid (after_line r l) ls))

  -- ---- lines that are laid

  -- a line that is laid: it has the indent if an item begins it, it stays as it is, and it fits
  pub record Row (r : Reached) (front : List ℕ) (x : ℕ) (u : List ℕ) : Type 0 where
    pub content : Content front x
    pub indented : is_between r ≡ true → i ≡ front
    pub alone : rows_of front (parts r (x ∷ u)) ≡ (front ++ x ∷ u) ∷ []
    pub fits : FitsLine w r (front ++ x ∷ u)
    pub line : IsOneLine (front ++ x ∷ u)

  -- lines that are laid, whether the first of them is that of a block
  pub data AreLaid : Bool → Reached → List (List ℕ) → Type 0 where
    no_line : (first : Bool) (r : Reached) → AreLaid first r []
    kept_line : (first : Bool) (r : Reached) (l : List ℕ) (ls : List (List ℕ)) → is_kept l ≡ true → IsOneLine l → AreLaid false r ls → AreLaid first r (l ∷ ls)
    laid_row : (first : Bool) (r : Reached) (front : List ℕ) (x : ℕ) (u : List ℕ) (ls : List (List ℕ)) → Begins first front → Row r front x u
        → AreLaid false (after r (x ∷ u)) ls → AreLaid first r ((front ++ x ∷ u) ∷ ls)

  lead_is : (r : Reached) (front : List ℕ) (x : ℕ) (u : List ℕ) → Content front x → (is_between r ≡ true → i ≡ front) → lead i r (front ++ x ∷ u) ≡ front
  lead_is r front x u c indented =
      elim (cases_Bool (is_between r)) [
        | inl t ↦ rw t (indented t)
        | inr f ↦ rw f (front_is front x u c.white c.visible)
      ]

  -- such lines stay
  row_stays : (r : Reached) (front : List ℕ) (x : ℕ) (u : List ℕ) → Row r front x u → laid_line r (front ++ x ∷ u) ≡ (front ++ x ∷ u) ∷ []
  row_stays r front x u row =
      rw (not_kept front x u row.content, lead_is r front x u row.content row.indented, content_is front x u row.content.white row.content.visible) row.alone

  pub after_row : (r : Reached) (front : List ℕ) (x : ℕ) (u : List ℕ) → Content front x → after_line r (front ++ x ∷ u) ≡ after r (x ∷ u)
  after_row r front x u c = rw (not_kept front x u c, content_is front x u c.white c.visible) refl

  pub laid_stay : {first : Bool} {r : Reached} {ls : List (List ℕ)} → AreLaid first r ls → relaid r ls ≡ ls
  laid_stay (no_line first r) = refl
  laid_stay (kept_line first r l ls k one are) = rw k (ap (λ (ms : List (List ℕ)). l ∷ ms) (laid_stay are))
  laid_stay (laid_row first r front x u ls begins row are) =
      ap (λ (ms : List (List ℕ)). ms ++ relaid (after_line r (front ++ x ∷ u)) ls) (row_stays r front x u row)
      ∙ ap (λ (q : Reached). (front ++ x ∷ u) ∷ relaid q ls) (after_row r front x u row.content)
      ∙ ap (λ (ms : List (List ℕ)). (front ++ x ∷ u) ∷ ms) (laid_stay are)

  pub laid_fit : {first : Bool} {r : Reached} {ls : List (List ℕ)} → AreLaid first r ls → FitsFrom w r ls
  laid_fit (no_line first r) = tt
  laid_fit (kept_line first r l ls k one are) = (inr (inl k), rw k (laid_fit are))
  laid_fit (laid_row first r front x u ls begins row are) =
      (row.fits, subst (λ (q : Reached). FitsFrom w q ls) (sym (after_row r front x u row.content)) (laid_fit are))

  pub laid_lines : {first : Bool} {r : Reached} {ls : List (List ℕ)} → AreLaid first r ls → AllLines ls
  laid_lines (no_line first r) = tt
  laid_lines (kept_line first r l ls k one are) = (one, laid_lines are)
  laid_lines (laid_row first r front x u ls begins row are) = (row.line, laid_lines are)

  -- ---- what is written is laid

  module _ (indent : IsIndent i) where
    pub indent_content : (y : ℕ) → is_white_space y ≡ false → Content i y
    indent_content y v = record { white = indent.white; visible = v; mark = no_mark i indent.some }
      where
        no_mark : (s : List ℕ) → s ≢ [] → NoComment s y
        no_mark [] some = absurd (some refl)
        no_mark (z ∷ zs) some = tt

    pub indent_begins : Begins false i
    indent_begins = some_begins i indent.some
      where
        some_begins : (s : List ℕ) → s ≢ [] → Begins false s
        some_begins [] some = absurd (some refl)
        some_begins (z ∷ zs) some = tt

    -- a line so far: `q` is its first part, `qs` are the others, and parts after them go on as after the line
    pub record SoFar (r : Reached) (front : List ℕ) (x : ℕ) (u : List ℕ) (s : Reached) : Type 0 where
      pub content : Content front x
      pub indented : is_between r ≡ true → i ≡ front
      pub q : List ℕ
      pub qs : List (List ℕ)
      pub are_parts : parts r (x ∷ u) ≡ (x ∷ q) ∷ qs
      pub goes : (more : List (List ℕ)) → rows (front ++ x ∷ q) (qs ++ more) ≡ rows (front ++ x ∷ u) more
      pub after : after r (x ∷ u) ≡ s
      pub fits : FitsLine w r (front ++ x ∷ u)
      pub line : IsOneLine (front ++ x ∷ u)

    row_of : (r : Reached) (front : List ℕ) (x : ℕ) (u : List ℕ) (s : Reached) → SoFar r front x u s → Row r front x u
    row_of r front x u s far = record {
      content = far.content;
      indented = far.indented;
      alone = ap (rows_of front) far.are_parts ∙ ap (rows (front ++ x ∷ far.q)) (sym (append-nil far.qs)) ∙ far.goes [];
      fits = far.fits;
      line = far.line;
    }

    fits_more : (line p : List ℕ) → nat_le (columns line + 1 + columns p) w ≡ true → columns (line ++ 32 ∷ p) ≤ w
    fits_more line p t = subst (λ (n : ℕ). n ≤ w) (sym (columns_after line p)) (leb-true (columns line + 1 + columns p) w t)

    over : (front : List ℕ) (x : ℕ) (u p : List ℕ) → front ++ x ∷ u ++ 32 ∷ p ≡ front ++ x ∷ (u ++ 32 ∷ p)
    over front x u p = append_assoc front (x ∷ u) (32 ∷ p)

    goes_more : (r : Reached) (front : List ℕ) (x : ℕ) (u : List ℕ) (y : ℕ) (p : List ℕ) → SoFar r front x u NoItem → is_white_space y ≡ false
        → IsPart NoItem (y ∷ p) → IsOneLine (y ∷ p) → nat_le (columns (front ++ x ∷ u) + 1 + columns (y ∷ p)) w ≡ true
        → SoFar r front x (u ++ 32 ∷ y ∷ p) (after NoItem (y ∷ p))
    goes_more r front x u y p far v is one t =
        let longer = over front x u (y ∷ p) in
        record {
          content = far.content;
          indented = far.indented;
          q = far.q;
          qs = far.qs ++ (y ∷ p) ∷ [];
          are_parts = parts_over r (x ∷ u) (32 ∷ y ∷ p) far.after ∙ ap (λ (ps : List (List ℕ)). ps ++ parts NoItem (y ∷ p)) far.are_parts
              ∙ ap (λ (ps : List (List ℕ)). (x ∷ far.q) ∷ (far.qs ++ ps)) is;
          goes = λ more. ap (rows (front ++ x ∷ far.q)) (append_assoc far.qs ((y ∷ p) ∷ []) more) ∙ far.goes ((y ∷ p) ∷ more)
              ∙ (rw t (ap (λ (line : List ℕ). rows line more) longer));
          after = after-append r (x ∷ u) (32 ∷ y ∷ p) ∙ ap (λ (q : Reached). after q (32 ∷ y ∷ p)) far.after;
          fits = inl (subst (λ (line : List ℕ). columns line ≤ w) longer (fits_more (front ++ x ∷ u) (y ∷ p) t));
          line = subst IsOneLine longer (one_line-append (front ++ x ∷ u) (32 ∷ y ∷ p) far.line (refl, one));
        }

    pub first_so_far : (r : Reached) (front : List ℕ) (x : ℕ) (q : List ℕ) → Content front x → (is_between r ≡ true → i ≡ front) → IsPart r (x ∷ q)
        → IsOneLine (front ++ x ∷ q) → SoFar r front x q (after r (x ∷ q))
    first_so_far r front x q c indented is one = record {
      content = c;
      indented = indented;
      q = q;
      qs = [];
      are_parts = is;
      goes = λ more. refl;
      after = refl;
      fits = inr (inr (rw (content_is front x q c.white c.visible) is));
      line = one;
    }

    pub rows_are : (first : Bool) (r : Reached) (front : List ℕ) (x : ℕ) (u : List ℕ) (s : Reached) (ps ls : List (List ℕ)) → Begins first front
        → SoFar r front x u s → Chain s ps → AllLines ps → AreLaid false (after_all s ps) ls → AreLaid first r (rows (front ++ x ∷ u) ps ++ ls)
    rows_are first r front x u s _ ls begins far (no_more _) lines are =
        laid_row first r front x u ls begins (row_of r front x u s far) (subst (λ (q : Reached). AreLaid false q ls) (sym far.after) are)
    rows_are first r front x u _ _ ls begins far (one_more y p ps v is chain) lines are =
        elim (cases_Bool (nat_le (columns (front ++ x ∷ u) + 1 + columns (y ∷ p)) w)) [
          | inl t ↦ rw t (subst (λ (line : List ℕ). AreLaid first r (rows line ps ++ ls)) (sym (over front x u (y ∷ p)))
              (rows_are first r front x (u ++ 32 ∷ y ∷ p) (after NoItem (y ∷ p)) ps ls begins (goes_more r front x u y p far v is lines.0 t) chain lines.1 are))
          | inr f ↦
              let next = first_so_far NoItem i y p (indent_content y v) (λ e. refl) is (one_line-append i (y ∷ p) (white_line i indent.white) lines.0) in
              let later = rows_are false NoItem i y p (after NoItem (y ∷ p)) ps ls indent_begins next chain lines.1 are in
              rw f (laid_row first r front x u (rows (i ++ y ∷ p) ps ++ ls) begins (row_of r front x u NoItem far)
              (subst (λ (q : Reached). AreLaid false q (rows (i ++ y ∷ p) ps ++ ls)) (sym far.after) later))
        ]
