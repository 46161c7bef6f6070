use Rattle.std.proofs.Common.{arith, ap, ◌∙◌, ◌++◌, ◌%◌, sym, replicate, ℕ}
use Rattle.std.proofs.lemmas.List.{length-map}
use Rattle.user_extension.specs.UserDefined.{row_of}
use Rattle.user_extension.proofs.Assembling.{extended, header_is, small}
use Rattle.user_extension.proofs.writing.push_extension.Goals as goal

pub push_header-requires : goal.push_header-requires
push_header-requires c =
    let s = small c.args.format _ _ c.requires.sizes c.requires.small in
    record {
      flags = s.few_flags;
      numbers = s.few_numbers;
      texts = s.few_texts;
      count = omega (arith, s.few, length-map c.args.rows.now (λ u. row_of u));
      table = s.small_table;
    }

pub push_value_places-requires : goal.push_value_places-requires
push_value_places-requires c = let s = small c.args.format _ _ c.requires.sizes c.requires.small in s.values_fit

pub push_name_places-requires : goal.push_name_places-requires
push_name_places-requires c = let s = small c.args.format _ _ c.requires.sizes c.requires.small in s.names_fit

pub returns : goal.returns
returns c =
    let s = small c.args.format _ _ c.requires.sizes c.requires.small in
    let header = c.in_ok-push_header.ensures
    ∙ ap (λ h. c.args.image.now.items ++ h) (header_is _ _ _ c.requires.sizes (sym (length-map c.args.rows.now (λ u. row_of u))) s.table_counted) in
    let gap = c.in_ok-push_fill.ensures ∙ ap (λ (n : ℕ). c.push_flags.new.image.items ++ replicate (n % 2) 0) c.requires.sizes.flags_are in
    extended c.args.format _ _ _ _ _ _ _ _ _ _ header c.in_ok-push_flags.ensures gap c.in_ok-push_numbers.ensures c.in_ok-push_value_places.ensures
    c.in_ok-push_name_places.ensures c.in_ok-push_values.ensures c.in_ok-push_names.ensures
