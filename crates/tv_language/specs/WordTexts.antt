use Rattle.std.specs.Prelude.{ℕ, Bool, ◌||◌, List, ◌==◌, codes, if◌then◌else◌}
use Rattle.std.specs.Char.{is_ascii_digit, is_ascii_alphabetic}
use Rattle.std.specs.Str.{bytes_eq}
use Rattle.tv_language.specs.declared.token.TokenKind.{TokenKind}
use Rattle.tv_language.specs.declared.token.TokenKind.TheVariants.{Start, From, To, At, Cutpoint, Error, Shadow, Process, Assume, Nondet, True, False, Name}

-- a letter or _
abbrev pub begins_name : ℕ → Bool
begins_name b = is_ascii_alphabetic b || b == 95

-- also a digit, or one of . ' ^ $
abbrev pub continues_name : ℕ → Bool
continues_name b = begins_name b || is_ascii_digit b || b == 46 || b == 39 || b == 94 || b == 36

-- what a word is that is none of the words of sections
abbrev pub command_kind : List ℕ → TokenKind
command_kind w =
    if bytes_eq w (codes "PROCESS") then Process
    else (if bytes_eq w (codes "assume") then Assume
    else (if bytes_eq w (codes "nondet") then Nondet
    else (if bytes_eq w (codes "true") then True
    else (if bytes_eq w (codes "false") then False
    else Name))))

-- what a word is: one of the reserved words, or a name
abbrev pub word_kind : List ℕ → TokenKind
word_kind w =
    if bytes_eq w (codes "START") then Start
    else (if bytes_eq w (codes "FROM") then From
    else (if bytes_eq w (codes "TO") then To
    else (if bytes_eq w (codes "AT") then At
    else (if bytes_eq w (codes "CUTPOINT") then Cutpoint
    else (if bytes_eq w (codes "ERROR") then Error
    else (if bytes_eq w (codes "SHADOW") then Shadow
    else command_kind w))))))
