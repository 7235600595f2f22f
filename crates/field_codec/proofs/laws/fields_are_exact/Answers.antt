use Rattle.field_codec.proofs.FieldLaws.{branch_exact, name_exact, text_exact, utf8_exact, comment_exact, value_exact, row_exact, change_exact, advice_exact}
use Rattle.field_codec.proofs.TableLaws.{table_exact, link_exact, synonym_exact}
use Rattle.field_codec.proofs.laws.fields_are_exact.Goals as goal

pub returns : goal.returns
returns c = record {
  branches = branch_exact;
  names = name_exact;
  texts = text_exact;
  utf8 = utf8_exact;
  comments = comment_exact;
  values = value_exact;
  rows = row_exact;
  changes = change_exact;
  tables = table_exact;
  links = link_exact;
  synonyms = synonym_exact;
  advice = advice_exact;
}
