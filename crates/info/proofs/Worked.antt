-- Lines worked out.
use Rattle.std.proofs.Common.{◌≡◌, true, false, [], ◌∷◌, ◌++◌, pos, negsuc, Some, None, Ok, Err, codes, refl}
use Rattle.meaning.specs.Forest.{none, tree}
use Rattle.meaning.specs.Model.{prim, double, fixed, struct, words, float64, variable, utf8, structs}
use Rattle.meaning.specs.Items.{field}
use Rattle.info.specs.Lines.{rows_line, quoted, field_line, column_line, field_lines, column_lines, report_text}

quotes : quoted (codes "a \"b\\" ++ (10 ∷ 255 ∷ [])) ≡ codes "\"a \\x22b\\x5c\\x0a\\xff\""
quotes = refl

-- the second of two rows is null
one-null : report_text (Ok (record {
  rows = 2;
  fields = tree (record { id = pos 4; required = false; name = codes "d"; shape = prim double }) none none;
  columns = tree (record { name = codes "d"; id_text = Some (codes "4"); code = words float64; len = 2; validity = Some (1 ∷ []); offsets = []; body = [] }) none none;
})) ≡ codes "rows 2\nfield 1 level 1 id 4 optional name \"d\" double\ncolumn 1 level 1 name \"d\" id \"4\" float64 length 2 nulls 1\n"
unfolding rows_line field_line column_line
one-null = refl

-- a field below the first, and one beside it
numbered : field_lines 1 1 (tree (record { id = pos 1; required = true; name = codes "s"; shape = struct }) (tree (record { id = negsuc 1; required = false; name = []; shape = prim (fixed 16) }) none none)
    (tree (record { id = pos 3; required = true; name = codes "x"; shape = prim double }) none none))
    ≡ codes "field 1 level 1 id 1 required name \"s\" struct\nfield 2 level 2 id -2 optional name \"\" fixed[16]\nfield 3 level 1 id 3 required name \"x\" double\n"
unfolding field_line
numbered = refl

-- a column without an id text, and without validity bits
bare : column_lines 1 1 (tree (record { name = codes "t"; id_text = None; code = structs; len = 3; validity = None; offsets = []; body = [] }) (tree (record { name = codes "u"; id_text = Some []; code = variable utf8; len = 3; validity = Some (5 ∷ []); offsets = []; body = [] }) none none) none)
    ≡ codes "column 1 level 1 name \"t\" id none struct length 3 nulls 0\ncolumn 2 level 2 name \"u\" id \"\" utf8 length 3 nulls 1\n"
unfolding column_line
bare = refl

refused : report_text (Err (record { number = 5; byte = 31; entry = field 2 })) ≡ codes "refused 5 byte 31 field 2\n"
refused = refl
