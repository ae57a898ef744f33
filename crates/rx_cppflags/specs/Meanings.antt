-- What compile words say.
use Rattle.std.specs.Prelude.{Bool, true, false, ◌||◌}
use denote.Enum.Bare.{sameb}
use Rattle.rx_cppflags.specs.contracts.meanings.Meaning.{the_type}
use Rattle.rx_cppflags.specs.declared.meanings.Meaning.{Meaning}
use Rattle.rx_cppflags.specs.declared.meanings.Meaning.TheVariants.{CSource, CppSource, OtherSource, QuoteDir, Dir, SystemDir, AfterDir, Forced, Sysroot, Output, SplitDebug, StackUsage, TimeTrace, Made}

-- whether two meanings are one
abbrev pub same : Meaning → Meaning → Bool
same meaning other = sameb the_type meaning other

-- whether the value is a path that the compiler writes
abbrev pub names_output : Meaning → Bool
names_output meaning = same meaning Output || same meaning Made

-- whether the value is a path
abbrev pub names_path : Meaning → Bool
names_path CSource = true
names_path CppSource = true
names_path QuoteDir = true
names_path Dir = true
names_path SystemDir = true
names_path AfterDir = true
names_path Forced = true
names_path Sysroot = true
names_path Output = true
names_path Made = true
names_path meaning = false

-- whether a file is made beside the object
abbrev pub names_side : Meaning → Bool
names_side meaning = same meaning SplitDebug || same meaning StackUsage || same meaning TimeTrace

-- whether the value is a source, of whatever language
abbrev pub names_source : Meaning → Bool
names_source meaning = same meaning CSource || same meaning CppSource || same meaning OtherSource
