-- The worked cases hold, by computing.
use Rattle.std.proofs.Common.{refl}
use Rattle.meaning.specs.Samples.{optional_values, required_values, two_lists, second_list_null, null_struct, valid_struct, one_empty_struct, no_empty_struct, beside_empty_struct}
use Rattle.meaning.specs.WorkedCases.{WorkedCases}
use Rattle.meaning.proofs.KeepsRead.{keeps-read}

pub worked_cases : WorkedCases
worked_cases = record {
  number_128_written = refl;
  number_128_read = refl;
  number_not_shortest = λ e byte. refl;
  number_fifth_byte = λ e byte. refl;
  number_largest_written = refl;
  number_largest_read = refl;
  id_plus = (refl, refl);
  id_zeros = (refl, refl);
  id_minus_zero = (refl, refl);
  id_too_large = λ id. (refl, refl);
  id_no_digit = λ id. (refl, refl);
  id_space = λ id. (refl, refl);
  infinity_no_nan = refl;
  nan_positive = refl;
  nan_negative = refl;
  pairs_accepted = refl;
  pairs_rows = refl;
  pairs_required = refl;
  lists_accepted = refl;
  lists_rows = refl;
  lists_shown = refl;
  null_list_accepted = refl;
  null_list_rows = refl;
  null_list_shown = refl;
  null_struct_accepted = refl;
  null_struct_rows = refl;
  struct_refused = refl;
  one_empty_struct_accepted = refl;
  one_empty_struct_rows = refl;
  no_empty_struct_accepted = refl;
  no_empty_struct_rows = refl;
  beside_accepted = refl;
  beside_rows = refl;
  pairs_keep = (keeps-read optional_values refl refl, keeps-read required_values refl refl);
  lists_keep = (keeps-read two_lists refl refl, keeps-read second_list_null refl refl);
  struct_keeps = (keeps-read null_struct refl refl, keeps-read valid_struct refl refl);
  empty_structs_keep = (keeps-read one_empty_struct refl refl, keeps-read no_empty_struct refl refl);
  beside_keeps = keeps-read beside_empty_struct refl refl;
}
