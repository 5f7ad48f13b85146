-- The heads of answers that have a file (RFC 9112 section 4).
use Rattle.std.specs.Prelude.{◌++◌, ℕ, List, codes}
use Rattle.std.specs.Fmt.{decimal}
use Rattle.reg_folder.specs.Media.{media_of}

-- what a page may load, and whom it may ask: its own address alone
abbrev pub policy : List ℕ
policy =
    codes "default-src 'none'; script-src 'self'; style-src 'self'; img-src 'self'; connect-src 'self'; base-uri 'none'; form-action 'none'; frame-ancestors 'none'"

-- what follows the length
abbrev pub fields_behind : List ℕ
fields_behind =
    codes "\r\nCache-Control: no-cache\r\nReferrer-Policy: no-referrer\r\nX-Content-Type-Options: nosniff\r\nContent-Security-Policy: "
    ++ (policy ++ codes "\r\nConnection: close\r\n\r\n")

-- the head of an answer that has the file at a path, of so many bytes
abbrev pub head_text : List ℕ → ℕ → List ℕ
head_text path length =
    codes "HTTP/1.1 200 OK\r\nContent-Type: "
    ++ (media_of path ++ (codes "\r\nContent-Length: " ++ (decimal length ++ fields_behind)))
