-- The table of compile words, and how a word is read by it.
use Rattle.std.specs.Prelude.{ℕ, ◌==◌, Bool, true, false, not, ◌&&◌, List, [], ◌∷◌, length, drop, Option, Some, None, nat_eq, if◌then◌else◌, codes}
use Rattle.std.specs.List.{starts_with, ends_with, list_any}
use Rattle.std.specs.Str.{bytes_eq}
use Rattle.std.specs.Borrow.{Bor}
use Rattle.rx_cppflags.specs.declared.meanings.Form.{Form}
use Rattle.rx_cppflags.specs.declared.meanings.Form.TheVariants.{Alone, Next, Joined, JoinedWithoutComma, JoinedOrNext, Ending}
use Rattle.rx_cppflags.specs.declared.meanings.Meaning.{Meaning}
use Rattle.rx_cppflags.specs.declared.meanings.Meaning.TheVariants.{Refused, Nothing, Machine, Target, Language, Feature, Print, Assembler, Preprocessor, CSource, CppSource, OtherSource, QuoteDir, Dir, SystemDir, AfterDir, Forced, Sysroot, Output, DependencyFile, WrittenDependencies, Dependencies, SplitDebug, StackUsage, TimeTrace, Bitcode, CompileOnly}

-- A spelling, the words that it stands for, and what they say.
pub record Row : Type 0 where
  pub spelling : List ℕ
  pub form : Form
  pub meaning : Meaning

abbrev pub row_of : Bor (List ℕ) × Form × Meaning → Row
row_of entry = record { spelling = entry.0.now; form = entry.1; meaning = entry.2 }

abbrev row : List ℕ → Form → Meaning → Row
row spelling form meaning = record { spelling = spelling; form = form; meaning = meaning }

-- The compile words. The first row that fits a word counts.
abbrev pub rows : List Row
rows =
    row (codes "-I") JoinedOrNext Dir ∷
    row (codes "--include-directory") Next Dir ∷
    row (codes "--include-directory=") Joined Dir ∷
    row (codes "-iquote") JoinedOrNext QuoteDir ∷
    row (codes "-isystem-after") Next AfterDir ∷
    row (codes "-isystem") JoinedOrNext SystemDir ∷
    row (codes "-cxx-isystem") JoinedOrNext SystemDir ∷
    row (codes "-idirafter") JoinedOrNext AfterDir ∷
    row (codes "-include") Next Forced ∷
    row (codes "-imacros") Next Forced ∷
    row (codes "--include") Next Forced ∷
    row (codes "--imacros") Next Forced ∷
    row (codes "--include=") Joined Forced ∷
    row (codes "--imacros=") Joined Forced ∷
    row (codes "--sysroot") Next Sysroot ∷
    row (codes "--sysroot=") Joined Sysroot ∷
    row (codes "-o") JoinedOrNext Output ∷
    row (codes "-MF") JoinedOrNext DependencyFile ∷
    row (codes "-MD") Alone Dependencies ∷
    row (codes "-MMD") Alone Dependencies ∷
    row (codes "-c") Alone CompileOnly ∷
    row (codes "-x") JoinedOrNext Language ∷
    row (codes "-D") JoinedOrNext Nothing ∷
    row (codes "-U") JoinedOrNext Nothing ∷
    row (codes "--define-macro") Next Nothing ∷
    row (codes "--define-macro=") Joined Nothing ∷
    row (codes "--undefine-macro") Next Nothing ∷
    row (codes "--undefine-macro=") Joined Nothing ∷
    row (codes "-Wp,-MD,") JoinedWithoutComma WrittenDependencies ∷
    row (codes "-Wp,-MMD,") JoinedWithoutComma WrittenDependencies ∷
    row (codes "-Wp,-MT,") JoinedWithoutComma Nothing ∷
    row (codes "-Wp,-MQ,") JoinedWithoutComma Nothing ∷
    row (codes "-Wp,") Joined Preprocessor ∷
    row (codes "-Wa,") Joined Assembler ∷
    row (codes "-Xassembler") Next Assembler ∷
    row (codes "-w") Alone Nothing ∷
    row (codes "-v") Alone Nothing ∷
    row (codes "-p") Alone Nothing ∷
    row (codes "-pg") Alone Nothing ∷
    row (codes "-s") Alone Nothing ∷
    row (codes "-pipe") Alone Nothing ∷
    row (codes "-pthread") Alone Nothing ∷
    row (codes "-ansi") Alone Nothing ∷
    row (codes "-trigraphs") Alone Nothing ∷
    row (codes "-undef") Alone Nothing ∷
    row (codes "-pedantic") Alone Nothing ∷
    row (codes "-pedantic-errors") Alone Nothing ∷
    row (codes "-nostdinc") Alone Nothing ∷
    row (codes "-nostdinc++") Alone Nothing ∷
    row (codes "-nobuiltininc") Alone Nothing ∷
    row (codes "-nostdlib") Alone Nothing ∷
    row (codes "-nostdlib++") Alone Nothing ∷
    row (codes "-nodefaultlibs") Alone Nothing ∷
    row (codes "-nostartfiles") Alone Nothing ∷
    row (codes "-nolibc") Alone Nothing ∷
    row (codes "-no-canonical-prefixes") Alone Nothing ∷
    row (codes "-canonical-prefixes") Alone Nothing ∷
    row (codes "-static") Alone Nothing ∷
    row (codes "-shared") Alone Nothing ∷
    row (codes "-pie") Alone Nothing ∷
    row (codes "-no-pie") Alone Nothing ∷
    row (codes "-rdynamic") Alone Nothing ∷
    row (codes "-H") Alone Nothing ∷
    row (codes "-P") Alone Nothing ∷
    row (codes "-C") Alone Nothing ∷
    row (codes "-CC") Alone Nothing ∷
    row (codes "-Q") Alone Nothing ∷
    row (codes "-Qn") Alone Nothing ∷
    row (codes "-Qunused-arguments") Alone Nothing ∷
    row (codes "-integrated-as") Alone Nothing ∷
    row (codes "-no-integrated-as") Alone Nothing ∷
    row (codes "-emit-llvm") Alone Bitcode ∷
    row (codes "-MP") Alone Nothing ∷
    row (codes "--ansi") Alone Nothing ∷
    row (codes "--pedantic") Alone Nothing ∷
    row (codes "--pedantic-errors") Alone Nothing ∷
    row (codes "--verbose") Alone Nothing ∷
    row (codes "--no-warnings") Alone Nothing ∷
    row (codes "--all-warnings") Alone Nothing ∷
    row (codes "--extra-warnings") Alone Nothing ∷
    row (codes "--trigraphs") Alone Nothing ∷
    row (codes "--no-standard-includes") Alone Nothing ∷
    row (codes "-MT") Next Nothing ∷
    row (codes "-MQ") Next Nothing ∷
    row (codes "-mllvm") Next Nothing ∷
    row (codes "-mthread-model") Next Nothing ∷
    row (codes "-arch") Next Nothing ∷
    row (codes "--param") Next Nothing ∷
    row (codes "-Xlinker") Next Nothing ∷
    row (codes "-z") Next Nothing ∷
    row (codes "-u") Next Nothing ∷
    row (codes "-target") Next Target ∷
    row (codes "--target=") Joined Target ∷
    row (codes "-L") JoinedOrNext Nothing ∷
    row (codes "-l") JoinedOrNext Nothing ∷
    row (codes "-R") Joined Nothing ∷
    row (codes "-std=") Joined Nothing ∷
    row (codes "--std=") Joined Nothing ∷
    row (codes "-stdlib=") Joined Nothing ∷
    row (codes "-rtlib=") Joined Nothing ∷
    row (codes "-unwindlib=") Joined Nothing ∷
    row (codes "-static-") Joined Nothing ∷
    row (codes "-shared-") Joined Nothing ∷
    row (codes "--param=") Joined Nothing ∷
    row (codes "--optimize") Joined Nothing ∷
    row (codes "--warn-") Joined Nothing ∷
    row (codes "--no-warn-") Joined Nothing ∷
    row (codes "-W") Joined Nothing ∷
    row (codes "-Ob") Joined Refused ∷
    row (codes "-O") Joined Nothing ∷
    row (codes "-gsplit-dwarf") Alone SplitDebug ∷
    row (codes "-gsplit-dwarf=") Joined Refused ∷
    row (codes "-gcc") Joined Refused ∷
    row (codes "-gen") Joined Refused ∷
    row (codes "-gmodules") Joined Refused ∷
    row (codes "-g") Joined Nothing ∷
    row (codes "-march=native") Joined Refused ∷
    row (codes "-mcpu=native") Joined Refused ∷
    row (codes "-mtune=native") Joined Refused ∷
    row (codes "-mod") Joined Refused ∷
    row (codes "-mul") Joined Refused ∷
    row (codes "-m") Joined Machine ∷
    row (codes "-fstack-usage") Alone StackUsage ∷
    row (codes "-ftime-trace") Alone TimeTrace ∷
    row (codes "-finput-charset=UTF-8") Alone Nothing ∷
    row (codes "-finput-charset=utf-8") Alone Nothing ∷
    row (codes "-fopt-info") Joined Print ∷
    row (codes "-fdiagnostics-format=") Joined Print ∷
    row (codes "-f") Joined Feature ∷
    row (codes "@") Joined Refused ∷
    row (codes ".c") Ending CSource ∷
    row (codes ".cc") Ending CppSource ∷
    row (codes ".cp") Ending CppSource ∷
    row (codes ".cpp") Ending CppSource ∷
    row (codes ".cxx") Ending CppSource ∷
    row (codes ".c++") Ending CppSource ∷
    row (codes ".C") Ending CppSource ∷
    row (codes ".CPP") Ending CppSource ∷
    row (codes ".m") Ending OtherSource ∷
    row (codes ".mm") Ending OtherSource ∷
    row (codes ".i") Ending OtherSource ∷
    row (codes ".ii") Ending OtherSource ∷
    row (codes ".s") Ending OtherSource ∷
    row (codes ".S") Ending OtherSource ∷
    []

-- ---- which row reads a word

-- what follows a spelling in a word that begins with it
abbrev pub behind : List ℕ → List ℕ → List ℕ
behind spelling word = if starts_with nat_eq word spelling then drop (length spelling) word else []

-- whether a spelling stands for a word
abbrev pub fits_as : Form → List ℕ → List ℕ → Bool
fits_as Alone spelling word = bytes_eq word spelling
fits_as Next spelling word = bytes_eq word spelling
fits_as Joined spelling word = starts_with nat_eq word spelling
fits_as JoinedWithoutComma spelling word = starts_with nat_eq word spelling && not (list_any (λ b. b == 44) (behind spelling word))
fits_as JoinedOrNext spelling word = starts_with nat_eq word spelling
fits_as Ending spelling word = ends_with nat_eq word spelling && not (starts_with nat_eq word (codes "-"))

abbrev pub fits : List ℕ → Row → Bool
fits word row = fits_as row.form row.spelling word

abbrev pub first_fitting : List ℕ → List Row → Option Row
first_fitting word [] = None
first_fitting word (row ∷ others) = if fits word row then Some row else first_fitting word others

-- the row that a word is read by: the first that fits
unfoldable pub row_for : List ℕ → Option Row
row_for word = first_fitting word rows

-- ---- where the word's value stands

-- whether it is the next word
abbrev pub takes_next : List ℕ → Row → Bool
takes_next word row = elim row.form [
  | Next ↦ true
  | JoinedOrNext ↦ length word == length row.spelling
  | _ ↦ false
]

-- the value in the word itself
abbrev pub own_value : List ℕ → Row → List ℕ
own_value word row = elim row.form [
  | Ending ↦ word
  | _ ↦ behind row.spelling word
]
