mod Everywhere
