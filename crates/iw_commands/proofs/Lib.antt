mod MoreLines
