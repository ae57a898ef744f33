-- How words are spelled.
use Rattle.std.specs.Prelude.{ℕ, List, ◌∷◌}
use Rattle.rx_lex.specs.Letters.{Letter}
use Rattle.rx_lex.specs.Pieces.{all_at_front, is_name}
use Rattle.rx_lex.specs.Line.{dependency_words, embed_query_words, embed_words, export_words, import_words, include_words, module_words, pragma_words, query_words}
use Rattle.rx_lex.specs.declared.words.Keyword.{Keyword}
use Rattle.rx_lex.specs.declared.words.Keyword.TheVariants.{Include, IncludeQuery, Module, Import, Export, Pragma, Dependency, Embed, EmbedQuery}

-- how a word is spelled that begins with this byte
abbrev pub word_bytes : ℕ → List Letter → List ℕ
word_bytes first ls = first ∷ all_at_front is_name ls

abbrev pub spellings : Keyword → List (List ℕ)
spellings Include = include_words
spellings IncludeQuery = query_words
spellings Module = module_words
spellings Import = import_words
spellings Export = export_words
spellings Pragma = pragma_words
spellings Dependency = dependency_words
spellings Embed = embed_words
spellings EmbedQuery = embed_query_words
