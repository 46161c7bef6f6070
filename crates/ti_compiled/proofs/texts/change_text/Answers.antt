use Rattle.std.proofs.Common.{◌≡◌, ◌+◌, ◌-◌, ◌*◌, ◌==◌, if◌then◌else◌, ℕ, List, [], ◌++◌, length, refl, ap, sym, ◌∙◌, arith, option_map, vec_capacity, Bor}
use Rattle.std.proofs.Common.{inl, inr}
use Rattle.ti_caps.specs.Tables.{capability}
use Rattle.ti_caps.specs.declared.capability.Kind.TheVariants.{Text}
use Rattle.ti_layout.specs.Image.{texts_below, written_count}
use Rattle.ti_compiled.specs.inside.Changes.{text_content}
use Rattle.ti_compiled.specs.Image.{with_content}
use Rattle.ti_compiled.specs.inside.Image.{names_in, contents_in}
use Rattle.ti_compiled.specs.inside.Bytes.{ended_text}
use Rattle.ti_compiled.proofs.TextFits.{gone_or_more, lengths_of, removed_found}
use Rattle.ti_compiled.proofs.TextSteps.{table_changed, offsets_resized, put_here, put_other, put_fits, offset_there, offset_none, text_changed}
use Rattle.ti_compiled.proofs.TextPlaces.{offset_of, offsets_from, length_front, head_of, middle}
use Rattle.ti_compiled.proofs.texts.change_text.Goals as goal
use Rattle.ti_compiled.proofs.texts.change_text.Goals.{in-Some, in-None}

pub overflow_sub-removed : goal.overflow_sub-removed
overflow_sub-removed c =
    let b = c.args.bytes.now.items in
    let t = option_map (λ (x : Bor (List ℕ)). x.now) c.args.text in
    let r = c.requires in
    let l = lengths_of b r.image c.args.old.now r.old c.args.index r.index t c.args.new.now r.new r.small c.deref.result.now c.deref-2.result.now
    c.start_of-start.result c.start_of.result (offsets_from c.args.old.now) (vec_capacity c.args.bytes.now) (length (ended_text t))
    c.deref.ensures.value c.deref-2.ensures.value c.start_of-start.ensures c.start_of.ensures refl refl r.room in
    let l0 = l.removed_is in let l1 = l.ordered in let l2 = l.fits in let l3 = l.in_table in let l4 = l.head in let l5 = l.room_for in let l6 =
    l.added_fits in let l7 = l.written in let l8 = l.wanted in let l9 = l.grows in
    omega arith

pub piece_len-added-requires : goal.piece_len-added-requires
piece_len-added-requires c =
    let b = c.args.bytes.now.items in
    let t = option_map (λ (x : Bor (List ℕ)). x.now) c.args.text in
    let r = c.requires in
    let l = lengths_of b r.image c.args.old.now r.old c.args.index r.index t c.args.new.now r.new r.small c.deref.result.now c.deref-2.result.now
    c.start_of-start.result c.start_of.result (offsets_from c.args.old.now) (vec_capacity c.args.bytes.now) (length (ended_text t))
    c.deref.ensures.value c.deref-2.ensures.value c.start_of-start.ensures c.start_of.ensures refl refl r.room in
    let l0 = l.removed_is in let l1 = l.ordered in let l2 = l.fits in let l3 = l.in_table in let l4 = l.head in let l5 = l.room_for in let l6 =
    l.added_fits in let l7 = l.written in let l8 = l.wanted in let l9 = l.grows in
    omega arith

pub overflow_add-strings_offset : goal.overflow_add-strings_offset
overflow_add-strings_offset c =
    let b = c.args.bytes.now.items in
    let t = option_map (λ (x : Bor (List ℕ)). x.now) c.args.text in
    let r = c.requires in
    let l = lengths_of b r.image c.args.old.now r.old c.args.index r.index t c.args.new.now r.new r.small c.deref.result.now c.deref-2.result.now
    c.start_of-start.result c.start_of.result c.offsets_offset-begin.result (vec_capacity c.args.bytes.now) c.piece_len-added.result
    c.deref.ensures.value c.deref-2.ensures.value c.start_of-start.ensures c.start_of.ensures c.offsets_offset-begin.ensures c.piece_len-added.ensures r.room in
    let l0 = l.removed_is in let l1 = l.ordered in let l2 = l.fits in let l3 = l.in_table in let l4 = l.head in let l5 = l.room_for in let l6 =
    l.added_fits in let l7 = l.written in let l8 = l.wanted in let l9 = l.grows in
    omega arith

pub replace_text-requires-clause-within : goal.replace_text-requires-clause-within
replace_text-requires-clause-within c =
    let b = c.args.bytes.now.items in
    let t = option_map (λ (x : Bor (List ℕ)). x.now) c.args.text in
    let r = c.requires in
    let l = lengths_of b r.image c.args.old.now r.old c.args.index r.index t c.args.new.now r.new r.small c.deref.result.now c.deref-2.result.now
    c.start_of-start.result c.start_of.result c.offsets_offset-begin.result (vec_capacity c.args.bytes.now) c.piece_len-added.result
    c.deref.ensures.value c.deref-2.ensures.value c.start_of-start.ensures c.start_of.ensures c.offsets_offset-begin.ensures c.piece_len-added.ensures r.room in
    let l0 = l.removed_is in let l1 = l.ordered in let l2 = l.fits in let l3 = l.in_table in let l4 = l.head in let l5 = l.room_for in let l6 =
    l.added_fits in let l7 = l.written in let l8 = l.wanted in let l9 = l.grows in
    omega arith

pub replace_text-requires-clause-room : goal.replace_text-requires-clause-room
replace_text-requires-clause-room c =
    let b = c.args.bytes.now.items in
    let t = option_map (λ (x : Bor (List ℕ)). x.now) c.args.text in
    let r = c.requires in
    let l = lengths_of b r.image c.args.old.now r.old c.args.index r.index t c.args.new.now r.new r.small c.deref.result.now c.deref-2.result.now
    c.start_of-start.result c.start_of.result c.offsets_offset-begin.result (vec_capacity c.args.bytes.now) c.piece_len-added.result
    c.deref.ensures.value c.deref-2.ensures.value c.start_of-start.ensures c.start_of.ensures c.offsets_offset-begin.ensures c.piece_len-added.ensures r.room in
    let l0 = l.removed_is in let l1 = l.ordered in let l2 = l.fits in let l3 = l.in_table in let l4 = l.head in let l5 = l.room_for in let l6 =
    l.added_fits in let l7 = l.written in let l8 = l.wanted in let l9 = l.grows in
    let a = c.piece_len-added.ensures in
    elim (gone_or_more b r.image c.args.old.now r.old c.args.index r.index t c.args.new.now r.new r.small) [
      | inl none ↦ omega arith
      | inr more ↦ omega arith
    ]

pub resize_part-requires-clause-within : goal.resize_part-requires-clause-within
resize_part-requires-clause-within c =
    let b = c.args.bytes.now.items in
    let t = option_map (λ (x : Bor (List ℕ)). x.now) c.args.text in
    let r = c.requires in
    let l = lengths_of b r.image c.args.old.now r.old c.args.index r.index t c.args.new.now r.new r.small c.deref.result.now c.deref-2.result.now
    c.start_of-start.result c.start_of.result c.offsets_offset-begin.result (vec_capacity c.args.bytes.now) c.piece_len-added.result
    c.deref.ensures.value c.deref-2.ensures.value c.start_of-start.ensures c.start_of.ensures c.offsets_offset-begin.ensures c.piece_len-added.ensures r.room in
    let l0 = l.removed_is in let l1 = l.ordered in let l2 = l.fits in let l3 = l.in_table in let l4 = l.head in let l5 = l.room_for in let l6 =
    l.added_fits in let l7 = l.written in let l8 = l.wanted in let l9 = l.grows in
    let n1 = c.replace_text.ensures.len in
    let a = c.piece_len-added.ensures in
    omega arith

pub resize_part-requires-clause-room : goal.resize_part-requires-clause-room
resize_part-requires-clause-room c =
    let b = c.args.bytes.now.items in
    let t = option_map (λ (x : Bor (List ℕ)). x.now) c.args.text in
    let r = c.requires in
    let l = lengths_of b r.image c.args.old.now r.old c.args.index r.index t c.args.new.now r.new r.small c.deref.result.now c.deref-2.result.now
    c.start_of-start.result c.start_of.result c.offsets_offset-begin.result (vec_capacity c.args.bytes.now) c.piece_len-added.result
    c.deref.ensures.value c.deref-2.ensures.value c.start_of-start.ensures c.start_of.ensures c.offsets_offset-begin.ensures c.piece_len-added.ensures r.room in
    let l0 = l.removed_is in let l1 = l.ordered in let l2 = l.fits in let l3 = l.in_table in let l4 = l.head in let l5 = l.room_for in let l6 =
    l.added_fits in let l7 = l.written in let l8 = l.wanted in let l9 = l.grows in
    let n1 = c.replace_text.ensures.len in
    let a = c.piece_len-added.ensures in
    let n0 = c.replace_text.ensures.capacity in
    omega arith

pub put_offset-requires : goal.put_offset-requires
put_offset-requires c =
    let b = c.args.bytes.now.items in
    let t = option_map (λ (x : Bor (List ℕ)). x.now) c.args.text in
    let r = c.requires in
    let l = lengths_of b r.image c.args.old.now r.old c.args.index r.index t c.args.new.now r.new r.small c.deref.result.now c.deref-2.result.now
    c.start_of-start.result c.start_of.result c.offsets_offset-begin.result (vec_capacity c.args.bytes.now) c.piece_len-added.result
    c.deref.ensures.value c.deref-2.ensures.value c.start_of-start.ensures c.start_of.ensures c.offsets_offset-begin.ensures c.piece_len-added.ensures r.room in
    let l0 = l.removed_is in let l1 = l.ordered in let l2 = l.fits in let l3 = l.in_table in let l4 = l.head in let l5 = l.room_for in let l6 =
    l.added_fits in let l7 = l.written in let l8 = l.wanted in let l9 = l.grows in
    let n1 = c.replace_text.ensures.len in
    let a = c.piece_len-added.ensures in
    let n2 = c.resize_part.ensures.len in
    record { within = omega arith }

pub move_later-requires-clause-within : goal.move_later-requires-clause-within
move_later-requires-clause-within c =
    let b = c.args.bytes.now.items in
    let t = option_map (λ (x : Bor (List ℕ)). x.now) c.args.text in
    let r = c.requires in
    let l = lengths_of b r.image c.args.old.now r.old c.args.index r.index t c.args.new.now r.new r.small c.deref.result.now c.deref-2.result.now
    c.start_of-start.result c.start_of.result c.offsets_offset-begin.result (vec_capacity c.args.bytes.now) c.piece_len-added.result
    c.deref.ensures.value c.deref-2.ensures.value c.start_of-start.ensures c.start_of.ensures c.offsets_offset-begin.ensures c.piece_len-added.ensures r.room in
    let l0 = l.removed_is in let l1 = l.ordered in let l2 = l.fits in let l3 = l.in_table in let l4 = l.head in let l5 = l.room_for in let l6 =
    l.added_fits in let l7 = l.written in let l8 = l.wanted in let l9 = l.grows in
    let n1 = c.replace_text.ensures.len in
    let a = c.piece_len-added.ensures in
    let n2 = c.resize_part.ensures.len in
    let n3 = c.put_offset.ensures.len in
    omega arith

pub move_later-requires-clause-added : goal.move_later-requires-clause-added
move_later-requires-clause-added c =
    let b = c.args.bytes.now.items in
    let t = option_map (λ (x : Bor (List ℕ)). x.now) c.args.text in
    let r = c.requires in
    let l = lengths_of b r.image c.args.old.now r.old c.args.index r.index t c.args.new.now r.new r.small c.deref.result.now c.deref-2.result.now
    c.start_of-start.result c.start_of.result c.offsets_offset-begin.result (vec_capacity c.args.bytes.now) c.piece_len-added.result
    c.deref.ensures.value c.deref-2.ensures.value c.start_of-start.ensures c.start_of.ensures c.offsets_offset-begin.ensures c.piece_len-added.ensures r.room in
    let l0 = l.removed_is in let l1 = l.ordered in let l2 = l.fits in let l3 = l.in_table in let l4 = l.head in let l5 = l.room_for in let l6 =
    l.added_fits in let l7 = l.written in let l8 = l.wanted in let l9 = l.grows in
    omega arith

pub write_header-requires : goal.write_header-requires
write_header-requires c =
    let b = c.args.bytes.now.items in
    let t = option_map (λ (x : Bor (List ℕ)). x.now) c.args.text in
    let r = c.requires in
    let l = lengths_of b r.image c.args.old.now r.old c.args.index r.index t c.args.new.now r.new r.small c.deref.result.now c.deref-2.result.now
    c.start_of-start.result c.start_of.result c.offsets_offset-begin.result (vec_capacity c.args.bytes.now) c.piece_len-added.result
    c.deref.ensures.value c.deref-2.ensures.value c.start_of-start.ensures c.start_of.ensures c.offsets_offset-begin.ensures c.piece_len-added.ensures r.room in
    let l0 = l.removed_is in let l1 = l.ordered in let l2 = l.fits in let l3 = l.in_table in let l4 = l.head in let l5 = l.room_for in let l6 =
    l.added_fits in let l7 = l.written in let l8 = l.wanted in let l9 = l.grows in
    let n1 = c.replace_text.ensures.len in
    let a = c.piece_len-added.ensures in
    let n2 = c.resize_part.ensures.len in
    let n3 = c.put_offset.ensures.len in
    let n4 = c.move_later.ensures.len in
    omega arith

pub returns : goal.returns
returns c =
    let b = c.args.bytes.now.items in
    let t = option_map (λ (x : Bor (List ℕ)). x.now) c.args.text in
    let r = c.requires in
    let h = c.args.old.now in
    let k = c.args.new.now in
    let i = c.args.index in
    let d = contents_in b in
    let g = with_content d (capability Text i) (text_content t) in
    let rest = texts_below g (written_count g Text) in
    let front = head_of (names_in b) d ++ middle (names_in b) d in
    let place = c.offsets_offset-begin.result in
    let removed = c.start_of.result - c.start_of-start.result in
    let start : c.start_of-start.result ≡ length (texts_below d i) =
    c.start_of-start.ensures ∙ ap (λ z. length (texts_below (contents_in z) i)) c.deref.ensures.value in
    let gone = removed_found b r.image h r.old i r.index t k r.new r.small c.deref.result.now c.deref-2.result.now c.start_of-start.result c.start_of.result
    c.deref.ensures.value c.deref-2.ensures.value c.start_of-start.ensures c.start_of.ensures in
    let ep = c.offsets_offset-begin.ensures in
    let at : c.strings_offset.result + c.start_of-start.result ≡ place + 2 * h.texts + c.start_of-start.result =
    ap (λ x. x + c.start_of-start.result) (c.strings_offset.ensures ∙ ap (λ x. x + 2 * h.texts) (sym ep)) in
    let f : ℕ → ℕ = λ j. if j == i then offset_of g i else offset_of d j in
    let one = table_changed b r.image h r.old i r.index t c.replace_text.new.bytes.items place
    (c.strings_offset.result + c.start_of-start.result) c.start_of-start.result removed ep at start gone c.replace_text.ensures.part in
    let two = offsets_resized b r.image h r.old i r.index t c.replace_text.new.bytes.items c.resize_part.new.bytes.items
    (rest ++ []) place k.texts ep one c.resize_part.ensures.part in
    let long : length front ≡ place = length_front (names_in b) d h r.old ∙ sym ep in
    let offset : offset_of g i ≡ c.match-text.offset = elim c.match-text.branch [
      | in-Some w ↦ offset_there b r.image h r.old i r.index t w.in-Some.field-0.now (ap (option_map (λ (x : Bor (List ℕ)). x.now)) w.in-Some.is)
          ∙ sym start ∙ sym w.offset-is
      | in-None w ↦ offset_none b r.image h r.old i r.index t (ap (option_map (λ (x : Bor (List ℕ)). x.now)) w.in-None.is) ∙ sym w.offset-is
    ] in
    let three = c.put_offset.ensures.put front (rest ++ []) (offset_of d) f two long (λ lt. put_here b r.image h r.old i r.index t ∙ offset)
    (λ j other. put_other b r.image h r.old i r.index t j other) in
    let four = c.move_later.ensures.moved front (rest ++ []) f three long (λ j. put_fits b r.image h r.old i r.index t j) in
    text_changed b r.image h r.old i r.index t c.move_later.new.bytes.items c.write_header.new.bytes.items k removed c.piece_len-added.result gone
    c.piece_len-added.ensures four r.new r.small c.write_header.ensures.header
