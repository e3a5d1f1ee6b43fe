mod Judged
mod Run
mod Tail
